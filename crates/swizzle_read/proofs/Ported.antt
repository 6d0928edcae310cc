-- The numbers of a split, and a port's own, are what loading its pieces takes them for.
use mathlib.Core.Path.{◌≡◌, refl, sym, ap, ◌∙◌, subst}
use Prim.Native.Nat.{ℕ, ◌+◌, ◌-◌, ◌*◌, ◌^◌, ◌<◌, ◌≤◌}
use native.Mathlib.Omega.{arith}
use mathlib.Core.Bool.{true}
use mathlib.Core.List.{List}
use borrow.Author.Tests.{le-leb}
use lib.ListN.{length}
use Rattle.rules.specs.Limits.{None, X, addr_bits}
use Rattle.rules.specs.Value.{Value}
use Rattle.std.specs.Prelude.{Option}
use Rattle.net_flip_flop.specs.declared.Controls.{Controls}
use Rattle.rules.specs.Cell.{ReadPort}
use Rattle.rules.specs.Geometry.{Layout, walk, row_len_of, columns}
use Rattle.rules.specs.Swizzle.{Split, clocked_addr, spot_by, split_addr, split_by, piece_start}
use Rattle.swizzle_laws.proofs.Loading.{Names}
use Rattle.swizzle_laws.proofs.Places.{Splittable, row_bits, piece_walk, piece_within}
use Rattle.swizzle_pieces.specs.declared.Pieces.{Pieces}
use Rattle.swizzle_pieces.specs.Steps.{size_of, held}
use Rattle.swizzle_pieces.proofs.Loaded.{held-room}
use Rattle.swizzle_read.specs.Port.{addr_by}
use Rattle.swizzle_read.proofs.Meant.{Meant}
use Rattle.swizzle_pieces.proofs.Meaning.{Means}

-- what a port's numbers are
pub record Ports (q : Layout) (old new : ℕ) (addr : Value) (ok : Splittable q old new addr) (n : Pieces) : Type 0 where
  pub width : n.width ≡ q.width
  pub columns_are : n.columns ≡ columns q
  pub mask : n.mask ≡ 2 ^ addr_bits - 1 - row_bits q old new addr ok
  pub rows : n.rows ≡ 2 ^ old
  pub count : n.count ≡ (split_addr q old new addr).pieces
  pub few : 2 ^ old * (split_addr q old new addr).pieces ≤ 2 ^ addr_bits
  pub fewer : (split_addr q old new addr).pieces ≤ 2 ^ addr_bits
  pub below : n.first + 2 ^ new * columns q ≤ X
  pub names : Names q.width q.entries
  pub narrow : 2 ^ old * q.width ≤ None

module _ (q : Layout) (old new : ℕ) (addr : Value) (ok : Splittable q old new addr) (n : Pieces) (p : Ports q old new addr ok n) where
  abbrev s : Split
  s = split_addr q old new addr

  old_is : s.old ≡ old
  unfolding split_addr split_by
  old_is = refl

  start_is : (x j : ℕ) → piece_start q s x j ≡ (spot_by s.piece_roles (j + 2 ^ s.old * x)).row * columns q + (spot_by s.piece_roles (j + 2 ^ s.old * x)).chunk * row_len_of q
  unfolding piece_start
  start_is x j = refl

  spot_is : (x j : ℕ) → x < n.count → j < n.rows → walk addr_bits n.mask addr_bits (j + n.rows * x) ≡ spot_by s.piece_roles (j + 2 ^ s.old * x)
  spot_is x j h g =
      (λ i. walk addr_bits (p.mask i) addr_bits (j + p.rows i * x))
      ∙ sym (piece_walk q old new addr ok x j p.few p.fewer (omega (arith, p.count)) (omega (arith, p.rows)))
      ∙ ap (λ (k : ℕ). spot_by s.piece_roles (j + 2 ^ k * x)) (sym old_is)

  pub ports_mean : Means q s (2 ^ new * columns q) n
  ports_mean = record {
    width = p.width;
    rows = p.rows ∙ ap (λ (k : ℕ). 2 ^ k) (sym old_is);
    count = p.count;
    starts = λ x j h g. (λ i. (spot_is x j h g i).row * p.columns_are i + (spot_is x j h g i).chunk * row_len_of q) ∙ sym (start_is x j);
    within = λ x j h g. piece_within q old new addr ok x j (omega (arith, p.count)) (omega (arith, p.rows));
    below = p.below;
    names = p.names;
    narrow = subst (λ (k : ℕ). 2 ^ k * q.width ≤ None) (sym old_is) p.narrow;
  }

-- ---- the port of the rules, from its numbers
module _ (q : Layout) (old new : ℕ) (addr : Value) (ok : Splittable q old new addr) (port : ReadPort) (n : Pieces) (voids : ℕ) (fl : Option Controls) (w : ℕ) (scratch : List ℕ) (next : ℕ)
    (p : Ports q old new addr ok n) (v : voids ≡ 2 ^ new) (f : n.first ≡ next) (e : w ≡ 2 ^ old * q.width)
    (fits : n.count * w ≤ length scratch) (short : n.count * w ≤ 4294967296) (len : length q.entries ≤ X)
    (a : addr_by fl (split_addr q old new addr).mux_addr ≡ clocked_addr port.flip_flop (split_addr q old new addr).mux_addr) where
  split_old : (split_addr q old new addr).old ≡ old
  unfolding split_addr split_by
  split_old = refl

  split_new : (split_addr q old new addr).new ≡ new
  unfolding split_addr split_by
  split_new = refl

  size_is : size_of n ≡ w
  size_is = (λ i. p.rows i * p.width i) ∙ sym e

  needs_are : n.count * size_of n ≡ n.count * w
  needs_are = ap (λ (k : ℕ). n.count * k) size_is

  numbers_fit : n.rows * n.count ≤ 4294967296
  numbers_fit = subst (λ (k : ℕ). k ≤ 4294967296) (sym (λ i. p.rows i * p.count i)) p.few

  holds-all : held n (length q.entries) (length scratch) ≡ true
  holds-all =
      sym (held-room n (length q.entries) (length scratch) (n.count * size_of n) refl len numbers_fit (omega (arith, size_is, e, p.narrow)) (omega (arith, needs_are, short)))
      ∙ le-leb (n.count * size_of n) (length scratch) (omega (arith, needs_are, fits))

  pub port_meant : Meant q (split_addr q old new addr) port n voids fl w scratch next
  port_meant = record {
    numbers = subst (λ (k : ℕ). Means q (split_addr q old new addr) (2 ^ k * columns q) n) (sym split_new) (ports_mean q old new addr ok n p);
    voids_are = v ∙ ap (λ (k : ℕ). 2 ^ k) (sym split_new);
    columns_are = p.columns_are;
    first_is = f;
    width_is = e ∙ ap (λ (k : ℕ). 2 ^ k * q.width) (sym split_old);
    fits = fits;
    held_is = holds-all;
    addr_is = a;
  }
