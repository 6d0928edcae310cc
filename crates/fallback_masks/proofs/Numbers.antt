-- The steps of the code: over a mask, over the write ports, and the numbers of all rows.
use mathlib.Core.Path.{◌≡◌, refl, sym, ap, ◌∙◌}
use mathlib.Core.Logic.{◌≢◌, ⊎_elim}
use Prim.Native.Nat.{ℕ, zero, suc, ◌+◌, ◌-◌, ◌*◌, ◌/◌, ◌^◌, ◌<◌, ◌≤◌, min}
use native.Mathlib.Nat.{le_trans, mul-le-mul, mul-le-mul_left, div-mul-le_self, div-le_self, mul-div_left, pow-le-pow_right}
use native.Mathlib.Numerals.{add-one}
use native.Mathlib.Omega.{arith}
use lib.Pow.{pow-add, pow_pos}
use mathlib.Core.Bool.{Bool, true, false, not, ◌||◌}
use mathlib.Core.List.{List, [], ◌∷◌, map}
use lib.ListN.{length, get_or, drop, drop_of_length-le}
use lib.Seq.{drop-cons}
use lib.Dec.{eqb, ltb}
use borrow.Author.Tests.{eq-eqb, ne_eqb, lt-ltb, le-ltb}
use Rattle.lists.specs.Choice.{when◌then◌else◌}
use Rattle.lists.specs.Lists.{sum_by}
use Rattle.lists.proofs.Choice.{if_true, if_false, or_left}
use Rattle.lists.proofs.Sum.{sum_drop, sum_end}
use Rattle.rules.specs.Limits.{addr_bits, max_depth, max_width, max_ports}
use Rattle.rules.specs.Numbers.{largest}
use Rattle.rules.specs.Cell.{WritePort, Mem, write_at, Plan, wide_log2, write_wide_log2}
use Rattle.rules.specs.Log.{flag}
use Rattle.rules.specs.Fallback.{max_wide_log2, fallback_plan}
use Rattle.rules.proofs.Walks.{lt_or_le}
use Rattle.net_memory.specs.declared.Memory.{Memory}
use Rattle.net_memory.specs.View.{memory_of, writes_of, reads_of}
use Rattle.net_memory.proofs.Ports.{no_write_of}
use Rattle.fallback_plan.proofs.Logs.{most_low, reads_long, writes_long}
use Rattle.fallback_masks.specs.Sizes.{runs_from, max_mask_nets, mask_runs, port_pieces, port_runs, register_words, register_nets, rows_words_of, rows_nets, wide_sizes, size_words, size_nets}
use Rattle.fallback_masks.specs.Steps.{starts_run, left_after_of, pieces_by, spread_runs, runs_by_of, words_by, nets_by}
use Rattle.fallback_masks.proofs.Masks.{from_none, from_row, from_next}

-- ---- a step over a mask
module _ (left last n : ℕ) where
  pub start_row : left ≡ 0 → 1 ≡ starts_run left last n
  unfolding starts_run
  start_row e = sym (if_true (eqb left 0) 1 _ (eq-eqb left 0 e))

module _ (w left : ℕ) where
  pub left_row : left ≡ 0 → w - 1 ≡ left_after_of w left
  unfolding left_after_of
  left_row e = ap (λ (k : ℕ). k - 1) (sym (if_true (eqb left 0) w left (eq-eqb left 0 e)))

  pub left_next : left ≢ 0 → left - 1 ≡ left_after_of w left
  unfolding left_after_of
  left_next h = ap (λ (k : ℕ). k - 1) (sym (if_false (eqb left 0) w left (ne_eqb left 0 h)))

step-flag : (left last n : ℕ) → flag (not (eqb last n)) ≡ starts_run (suc left) last n
unfolding starts_run
step-flag left last n = sym (if_false (eqb (suc left) 0) 1 (flag (not (eqb last n))) (ne_eqb (suc left) 0 (λ z. omega (arith, z))))

step_left : (w left : ℕ) → left ≡ left_after_of w (suc left)
step_left w left = less left ∙ left_next w (suc left) (λ z. omega (arith, z))
  where
    less : (left : ℕ) → left ≡ suc left - 1
    less left = omega arith

from_step : (w left last n : ℕ) (l : List ℕ) → runs_from w left last (n ∷ l) ≡ starts_run left last n + runs_from w (left_after_of w left) n l
from_step w zero last n l =
    from_row w last n l ∙ omega (arith, start_row 0 last n refl, ap (λ (k : ℕ). runs_from w k n l) (left_row w 0 refl))
from_step w (suc left) last n l = from_next w left last n l ∙ (λ i. step-flag left last n i + runs_from w (step_left w left i) n l)

-- what is left from i on gives the whole
module _ (w : ℕ) (mask : List ℕ) where
  abbrev pub Counting : ℕ → ℕ → ℕ → ℕ → Type 0
  Counting left last runs i = runs + runs_from w left last (drop i mask) ≡ runs_from w 0 0 mask

  pub count_start : Counting 0 0 0 0
  count_start = omega arith

  pub count_turn : (left last runs i net d runs' left' : ℕ) → i < length mask → Counting left last runs i → net ≡ get_or mask i 0 → d ≡ starts_run left last net → runs' ≡ runs + d → left' ≡ left_after_of w left
      → Counting left' net runs' (i + 1)
  count_turn left last runs i net d runs' left' h e en ed er el =
      let s = ap (runs_from w left last) (drop-cons mask i 0 h) ∙ from_step w left last (get_or mask i 0) (drop (suc i) mask) in
      let x : starts_run left last (get_or mask i 0) ≡ d = sym (ed ∙ ap (starts_run left last) en) in
      let y : runs_from w left' net (drop (i + 1) mask) ≡ runs_from w (left_after_of w left) (get_or mask i 0) (drop (suc i) mask) = λ j. runs_from w (el j) (en j) (drop (add-one i j) mask) in
      omega (arith, s, x, y, e, er)

  pub count_end : (left last runs i : ℕ) → length mask ≤ i → Counting left last runs i → runs ≡ runs_from w 0 0 mask
  count_end left last runs i h e = omega (arith, e, ap (runs_from w left last) (drop_of_length-le mask h), from_none w left last)

  pub runs_long : max_mask_nets < length mask → 0 ≡ mask_runs w mask
  unfolding mask_runs
  runs_long h = sym (if_true (ltb max_mask_nets (length mask)) 0 _ (lt-ltb max_mask_nets (length mask) h))

  pub runs_short : (runs : ℕ) → length mask ≤ max_mask_nets → runs ≡ runs_from w 0 0 mask → runs ≡ mask_runs w mask
  unfolding mask_runs
  runs_short runs h e = e ∙ sym (if_false (ltb max_mask_nets (length mask)) 0 _ (le-ltb max_mask_nets (length mask) h))

-- ---- pieces
pub pieces_low : (depth rows most wide p : ℕ) → most ≡ min p (rows / wide) → depth / rows * most ≤ depth
pieces_low depth rows most wide p e =
    le_trans (mul-le-mul_left (depth / rows) (low (div-le_self rows wide))) (div-mul-le_self depth rows)
  where
    low : rows / wide ≤ rows → most ≤ rows
    low h = omega (arith, e)

pub pieces_is : (depth rows addr wide k bits p most : ℕ) → bits ≡ min addr 32 → p ≡ 2 ^ min bits 32 → most ≡ min p (rows / wide) → wide ≡ 2 ^ k → depth / rows * most ≡ pieces_by depth rows addr k
unfolding pieces_by
pieces_is depth rows addr wide k bits p most eb ep em ew =
    let b : min bits 32 ≡ min addr addr_bits = omega (arith, eb) in
    ap (λ (n : ℕ). depth / rows * n) (em ∙ (λ i. min ((ep ∙ ap (λ (n : ℕ). 2 ^ n) b) i) (rows / ew i)))

-- the power of the smaller is the smaller power
pow_min : (a b : ℕ) → min (2 ^ a) (2 ^ b) ≡ 2 ^ min a b
pow_min a b =
    ⊎_elim (λ h. let m : min a b ≡ a = omega (arith, h) in omega (arith, pow-le-pow_right {n = 2} (omega arith) {i = a} {j = b} (omega (arith, h)), ap (λ (n : ℕ). 2 ^ n) m))
    (λ h. let m : min a b ≡ b = omega (arith, h) in omega (arith, pow-le-pow_right {n = 2} (omega arith) {i = b} {j = a} h, ap (λ (n : ℕ). 2 ^ n) m))
    (lt_or_le a b)

pow_less : (K k : ℕ) → k ≤ K → 2 ^ K / 2 ^ k ≡ 2 ^ (K - k)
pow_less K k h =
    let e : K ≡ K - k + k = omega (arith, h) in
    ap (λ (n : ℕ). 2 ^ n / 2 ^ k) e ∙ ap (λ (n : ℕ). n / 2 ^ k) (pow-add 2 (K - k) k) ∙ mul-div_left (2 ^ (K - k)) (pow_pos k)

pub bits_least : (addr K k : ℕ) → k ≤ K → K ≤ addr_bits → min (2 ^ min addr addr_bits) (2 ^ K / 2 ^ k) ≡ 2 ^ min addr (K - k)
bits_least addr K k h g =
    let e : min (min addr addr_bits) (K - k) ≡ min addr (K - k) = omega (arith, g) in
    ap (min (2 ^ min addr addr_bits)) (pow_less K k h) ∙ pow_min (min addr addr_bits) (K - k) ∙ ap (λ (n : ℕ). 2 ^ n) e

-- ---- the runs of all rows
pub spread_max : (depth pieces runs : ℕ) → depth ≤ max_depth → pieces ≤ depth → runs ≤ max_mask_nets → pieces * runs ≤ 67108864
spread_max depth pieces runs h g k = mul-le-mul {n₁ = pieces} {m₁ = runs} {n₂ = 32768} {m₂ = 2048} (omega arith) k

pub rows_max : (depth pieces wide : ℕ) → depth ≤ max_depth → pieces ≤ depth → wide ≤ 4294967296 → pieces * wide ≤ 140737488355328
rows_max depth pieces wide h g k = mul-le-mul {n₁ = pieces} {m₁ = wide} {n₂ = 32768} {m₂ = 4294967296} (omega arith) k

pub spread_past : (depth pieces wide runs k : ℕ) → wide ≡ 2 ^ k → depth < pieces * wide → pieces * runs ≡ spread_runs depth pieces k runs
unfolding spread_runs
spread_past depth pieces wide runs k e h = past (pieces * runs) depth (pieces * wide) (pieces * 2 ^ k) (ap (λ (n : ℕ). pieces * n) e) h
  where
    past : (x d a b : ℕ) → a ≡ b → d < a → x ≡ x + (d - b)
    past x d a b e h = omega arith

pub spread_in : (depth pieces wide runs k : ℕ) → wide ≡ 2 ^ k → pieces * runs + (depth - pieces * wide) ≡ spread_runs depth pieces k runs
unfolding spread_runs
spread_in depth pieces wide runs k e = ap (λ (n : ℕ). pieces * runs + (depth - pieces * n)) e

pub port_is : (depth width rows addr k pieces runs r : ℕ) (p : WritePort) → k ≡ wide_log2 width (length p.bits) → addr ≡ length p.addr → runs ≡ mask_runs width p.mask
    → pieces ≡ pieces_by depth rows addr k → r ≡ spread_runs depth pieces k runs → r ≡ runs_by_of depth width rows p
unfolding runs_by_of
port_is depth width rows addr k pieces runs r p ek ea er ep e = e ∙ (λ i. spread_runs depth ((ep ∙ (λ j. pieces_by depth rows (ea j) (ek j))) i) (ek i) (er i))

-- ---- all write ports: what is left from i on gives the whole
module _ (f : WritePort → ℕ) (ps : List WritePort) where
  abbrev pub Summing : ℕ → ℕ → Type 0
  Summing runs i = runs + sum_by f (drop i ps) ≡ sum_by f ps

  pub summing_turn : (runs i r : ℕ) (d : WritePort) → i < length ps → Summing runs i → r ≡ f (get_or ps i d) → Summing (runs + r) (i + 1)
  summing_turn runs i r d h e g = omega (arith, sum_drop f ps i d h, e, g)

  pub summing_end : (runs i : ℕ) → length ps ≤ i → Summing runs i → runs ≡ sum_by f ps
  summing_end runs i h e = omega (arith, sum_end f ps i h, e)

-- ---- the memory
pub in_limits : (m : Mem) → m.depth ≤ max_depth → m.width ≤ max_width → wide_sizes m ≡ false
unfolding wide_sizes
in_limits m a b = λ i. le-ltb max_depth m.depth a i || le-ltb max_width m.width b i

pub widest_is : (m : Mem) (s : Plan) → s ≡ fallback_plan m → s.soft_mask + 1 ≡ 2 ^ max_wide_log2 m
unfolding fallback_plan
widest_is m s e = omega (arith, ap (λ (p : Plan). p.soft_mask) e, pow_pos (max_wide_log2 m))

module _ (m : Mem) (low : max_wide_log2 m ≤ addr_bits) where
  abbrev K : ℕ
  K = max_wide_log2 m

  port_runs_are : (p : WritePort) → write_wide_log2 m p ≤ K → runs_by_of m.depth m.width (2 ^ K) p ≡ port_runs m p
  unfolding runs_by_of spread_runs pieces_by port_runs port_pieces write_wide_log2
  port_runs_are p h =
      let k = wide_log2 m.width (length p.bits) in
      ap (λ (n : ℕ). m.depth / 2 ^ K * n * mask_runs m.width p.mask + (m.depth - m.depth / 2 ^ K * n * 2 ^ k)) (bits_least (length p.addr) K k h low)

  runs_each : (ps : List WritePort) → largest (map (write_wide_log2 m) ps) ≤ K → sum_by (runs_by_of m.depth m.width (2 ^ K)) ps ≡ sum_by (port_runs m) ps
  unfolding largest
  runs_each [] h = refl
  runs_each (p ∷ ps) h = λ i. port_runs_are p (omega (arith, h)) i + runs_each ps (omega (arith, h)) i

  writes_low : largest (map (write_wide_log2 m) m.writes) ≤ K
  unfolding max_wide_log2
  writes_low = omega arith

  module _ (reads writes runs rows : ℕ) (er : reads ≡ length m.reads) (ew : writes ≡ length m.writes) (ek : rows ≡ 2 ^ K) (es : runs ≡ sum_by (runs_by_of m.depth m.width rows) m.writes) where
    runs_are : runs ≡ sum_by (port_runs m) m.writes
    runs_are = es ∙ ap (λ (n : ℕ). sum_by (runs_by_of m.depth m.width n) m.writes) ek ∙ runs_each m.writes writes_low

    words_by_is : m.width ≢ 0 → words_by m.depth m.width reads writes runs ≡ rows_words_of m
    unfolding words_by rows_words_of register_words
    words_by_is w =
        (λ i. m.depth * (er i * (4 + 2 * m.width)) + (when eqb (ew i) 0 then 0 else m.depth * (21 + 6 * m.width + ew i * (2 * m.width)) + 5 * runs_are i))
        ∙ sym (if_false (eqb m.width 0) 0 _ (ne_eqb m.width 0 w))

    nets_by_is : m.width ≢ 0 → nets_by m.depth m.width writes ≡ rows_nets m
    unfolding nets_by rows_nets register_nets
    nets_by_is w = (λ i. when eqb (ew i) 0 then 0 else m.depth * ((2 + ew i) * m.width)) ∙ sym (if_false (eqb m.width 0) 0 _ (ne_eqb m.width 0 w))

    pub words_is : m.depth ≤ max_depth → m.width ≤ max_width → m.width ≢ 0 → words_by m.depth m.width reads writes runs ≡ size_words m
    unfolding size_words
    words_is a b w = words_by_is w ∙ sym (if_false (wide_sizes m) 0 (rows_words_of m) (in_limits m a b))

    pub nets_is : m.depth ≤ max_depth → m.width ≤ max_width → m.width ≢ 0 → nets_by m.depth m.width writes ≡ size_nets m
    unfolding size_nets
    nets_is a b w = nets_by_is w ∙ sym (if_false (wide_sizes m) 0 (rows_nets m) (in_limits m a b))

-- ---- nothing past the limits
module _ (m : Mem) where
  pub deep_none : max_depth < m.depth → (0 ≡ size_words m) × (0 ≡ size_nets m)
  unfolding size_words size_nets wide_sizes
  deep_none h =
      let t = or_left (ltb max_width m.width) (lt-ltb max_depth m.depth h) in
      (sym (if_true _ 0 (rows_words_of m) t), sym (if_true _ 0 (rows_nets m) t))

  over : max_width < m.width → (b : Bool) → (b || ltb max_width m.width) ≡ true
  over h true = refl
  over h false = lt-ltb max_width m.width h

  pub wide_none : max_width < m.width → (0 ≡ size_words m) × (0 ≡ size_nets m)
  unfolding size_words size_nets wide_sizes
  wide_none h =
      let t = over h (ltb max_depth m.depth) in
      (sym (if_true _ 0 (rows_words_of m) t), sym (if_true _ 0 (rows_nets m) t))

  either : (b : Bool) (n : ℕ) → n ≡ 0 → 0 ≡ (when b then 0 else n)
  either true n e = refl
  either false n e = sym e

  pub flat-words : m.width ≡ 0 → rows_words_of m ≡ 0
  unfolding rows_words_of
  flat-words e = if_true (eqb m.width 0) 0 _ (eq-eqb m.width 0 e)

  pub flat_nets_lem : m.width ≡ 0 → rows_nets m ≡ 0
  unfolding rows_nets
  flat_nets_lem e = if_true (eqb m.width 0) 0 _ (eq-eqb m.width 0 e)

  pub flat_none : m.width ≡ 0 → (0 ≡ size_words m) × (0 ≡ size_nets m)
  unfolding size_words size_nets
  flat_none e = (either (wide_sizes m) (rows_words_of m) (flat-words e), either (wide_sizes m) (rows_nets m) (flat_nets_lem e))

-- ---- products
pub row_max : (ports each : ℕ) → ports ≤ 10 → each ≤ 260 → ports * each ≤ 2600
row_max ports each h g = mul-le-mul {n₁ = ports} {m₁ = each} {n₂ = 10} {m₂ = 260} h g

pub all_max : (depth each : ℕ) → depth ≤ max_depth → each ≤ 4096 → depth * each ≤ 134217728
all_max depth each h g = mul-le-mul {n₁ = depth} {m₁ = each} {n₂ = 32768} {m₂ = 4096} h g

pub words_none : (depth width reads writes runs a b : ℕ) → writes ≡ 0 → a ≡ reads * (4 + 2 * width) → b ≡ depth * a → b ≡ words_by depth width reads writes runs
unfolding words_by
words_none depth width reads writes runs a b e f g =
    g ∙ ap (λ (n : ℕ). depth * n) f ∙ plain (depth * (reads * (4 + 2 * width))) _ (if_true (eqb writes 0) 0 _ (eq-eqb writes 0 e))
  where
    plain : (x y : ℕ) → y ≡ 0 → x ≡ x + y
    plain x y e = omega arith

pub words_some : (depth width reads writes runs a b d e : ℕ) → writes ≢ 0 → a ≡ reads * (4 + 2 * width) → b ≡ depth * a → d ≡ writes * (2 * width) → e ≡ depth * (21 + 6 * width + d)
    → b + (e + 5 * runs) ≡ words_by depth width reads writes runs
unfolding words_by
words_some depth width reads writes runs a b d e n f g h k =
    (λ i. (g ∙ ap (λ (x : ℕ). depth * x) f) i + ((k ∙ ap (λ (x : ℕ). depth * (21 + 6 * width + x)) h) i + 5 * runs))
    ∙ ap (λ (x : ℕ). depth * (reads * (4 + 2 * width)) + x) (sym (if_false (eqb writes 0) 0 _ (ne_eqb writes 0 n)))

pub nets_none : (depth width writes : ℕ) → writes ≡ 0 → 0 ≡ nets_by depth width writes
unfolding nets_by
nets_none depth width writes e = sym (if_true (eqb writes 0) 0 _ (eq-eqb writes 0 e))

pub nets_some : (depth width writes a b : ℕ) → writes ≢ 0 → a ≡ (2 + writes) * width → b ≡ depth * a → b ≡ nets_by depth width writes
unfolding nets_by
nets_some depth width writes a b n f g = g ∙ ap (λ (x : ℕ). depth * x) f ∙ sym (if_false (eqb writes 0) 0 _ (ne_eqb writes 0 n))

-- ---- the struct's memory
module _ (m : Memory) (nets trits : List ℕ) where
  abbrev M : Mem
  M = memory_of m nets trits

  -- write port i
  pub port_at_lem : (f : WritePort → ℕ) (i r : ℕ) (p : WritePort) → p ≡ write_at M i → r ≡ f p → r ≡ f (get_or (writes_of m nets) i no_write_of)
  unfolding write_at memory_of
  port_at_lem f i r p e g = g ∙ ap f e

  pub deep_size : max_depth < m.depth → (0 ≡ size_words M) × (0 ≡ size_nets M)
  unfolding memory_of
  deep_size h = deep_none M h

  pub wide_size : max_width < m.width → (0 ≡ size_words M) × (0 ≡ size_nets M)
  unfolding memory_of
  wide_size h = wide_none M h

  pub flat_size : m.width ≡ 0 → (0 ≡ size_words M) × (0 ≡ size_nets M)
  unfolding memory_of
  flat_size e = flat_none M e

  module _ (depth width reads writes runs rows : ℕ) (ed : depth ≡ m.depth) (ev : width ≡ m.width) (er : reads ≡ min max_ports m.read_count) (ew : writes ≡ min max_ports m.write_count)
      (lr : length (reads_of m nets trits) ≡ min max_ports m.read_count) (lw : length (writes_of m nets) ≡ min max_ports m.write_count) (ek : rows ≡ 2 ^ max_wide_log2 M)
      (es : runs ≡ sum_by (runs_by_of depth m.width rows) (writes_of m nets)) (a : m.depth ≤ max_depth) (b : m.width ≤ max_width) (w : m.width ≢ 0) where
    low : max_wide_log2 M ≤ addr_bits
    low = omega (arith, most_low m nets trits)

    summed : runs ≡ sum_by (runs_by_of M.depth M.width rows) M.writes
    unfolding memory_of
    summed = es ∙ ap (λ (d : ℕ). sum_by (runs_by_of d m.width rows) (writes_of m nets)) ed

    sizes : (depth ≡ M.depth) × (width ≡ M.width) × (M.depth ≤ max_depth) × (M.width ≤ max_width) × (M.width ≢ 0)
    unfolding memory_of
    sizes = (ed, ev, a, b, w)

    pub size_words_lem : (words : ℕ) → words ≡ words_by depth width reads writes runs → words ≡ size_words M
    size_words_lem words e =
        e ∙ (λ i. words_by (sizes.0 i) (sizes.1 i) reads writes runs)
        ∙ words_is M low reads writes runs rows (er ∙ sym (reads_long m nets trits lr)) (ew ∙ sym (writes_long m nets trits lw)) ek summed sizes.2 sizes.3 sizes.4

    pub size_nets_lem : (n : ℕ) → n ≡ nets_by depth width writes → n ≡ size_nets M
    size_nets_lem n e =
        e ∙ (λ i. nets_by (sizes.0 i) (sizes.1 i) writes)
        ∙ nets_is M low reads writes runs rows (er ∙ sym (reads_long m nets trits lr)) (ew ∙ sym (writes_long m nets trits lw)) ek summed sizes.2 sizes.3 sizes.4
