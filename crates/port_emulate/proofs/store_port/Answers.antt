-- `port_emulate::store_port` meets its contract.
use mathlib.Core.Path.{◌≡◌}
use native.Mathlib.Omega.{arith}
use lib.ListN.{length, take}
use lib.Seq.{length-take-le}
use Rattle.port_emulate.proofs.Stored.{three_stored}
use Rattle.port_emulate.proofs.store_port.Goals as goal

pub returns : goal.returns
returns c =
    let v = c.args in
    let a = v.room.now.addr in
    let d = v.room.now.bits in
    let k = v.room.now.mask in
    let la : length a ≡ 4096 = omega arith in
    let ld : length d ≡ 4096 = omega arith in
    let lk : length k ≡ 4096 = omega arith in
    let h = c.requires in
    let l1 = c.copy.new.to in
    let l2 = c.copy-2.new.to in
    let l3 = c.copy-3.new.to in
    record {
      nets_after = three_stored v.nets.now l1 l2 l3 (take v.p.addr_len a) (take v.p.data_len d) (take v.p.mask_len k) v.at v.p.addr_len v.p.data_len
          c.copy.ensures c.copy-2.ensures c.copy-3.ensures
          (length-take-le v.p.addr_len a (omega (arith, la, h))) (length-take-le v.p.data_len d (omega (arith, ld, h)));
      lens = (la, ld, lk);
    }
