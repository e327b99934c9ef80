-- `first_half` meets its contract: the pairs are read in the record's last bytes, which are the cell's table. Assumes
-- nothing.
use mathlib.Core.Path.{ap, ◌∙◌}
use mathlib.Core.Bool.{Bool}
use Prim.Native.Nat.{◌+◌, ◌*◌, ◌<◌}
use native.Mathlib.Omega.{arith}
use lib.Pow.{pow_mono}
use Rattle.bits.specs.Numbers.{bit, val}
use Rattle.bits.proofs.Machine.{shl_one}
use Rattle.bits.proofs.Numbers.{val-lt}
use Rattle.sheets.specs.Record.{byte_at, cell_bit}
use Rattle.runs.proofs.Runs.{part_length, pairs-room, table-part}
use Rattle.runs.proofs.words.first_half.Goals as goal

pub pairs-requires : goal.pairs-requires
pairs-requires c =
    let a = c.args in
    let n = c.saturating_sub-others.result in
    let few : n < a.e.most = omega (arith, c.requires.0.sound.three, c.requires.0.readable.few) in
    let one = shl_one 64 n (omega (arith, c.requires.0.sound.eight)) in (
      omega (arith, one, pairs-room a.e c.requires.0.sound n few, part_length a.e a.b.now, c.requires.0.long),
      omega (arith, one, pow_mono {i = n} {j = 7} (omega (arith, c.requires.0.sound.eight))),
    )

pub returns : goal.returns
returns c =
    let a = c.args in
    let n = c.saturating_sub-others.result in
    let few : n < a.e.most = omega (arith, c.requires.0.sound.three, c.requires.0.readable.few) in
    let one = shl_one 64 n (omega (arith, c.requires.0.sound.eight)) in record {
      value = c.saturating_sub-others.ensures;
      by_index = λ h j l g.
          let x = 2 * h + val (bit c.cell_input.result j) in
          c.pairs.ensures h j (omega (arith, one)) g
          ∙ table-part a.e a.b.now x (omega (
            arith,
            pairs-room a.e c.requires.0.sound n few,
            val-lt
                (bit c.cell_input.result j),
            c.requires.0.long,
          ))
          ∙ ap (λ (b : Bool). cell_bit a.e (byte_at a.b.now) (2 * h + val b)) (c.cell_input.ensures j);
    }
