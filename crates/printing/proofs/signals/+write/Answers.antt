-- `write` puts the text of a signal. Assumes nothing.
use mathlib.Core.Path.{refl, ap}
use native.Mathlib.Omega.{arith}
use Rattle.printing.specs.declared.pairs.Form.{Form}
use Rattle.printing.proofs.Forms.{form_is}
use Rattle.printing.proofs.Staging.{at_cell, next, next-flipped, next-byte, has_room, has_one, all_put}
use Rattle.printing.proofs.Staging.{flip_fits, letter_parts, pair_ready, two-parts, digit-parts}
use Rattle.printing.proofs.Staging.{same_parts, one_room, low_room, high_room}
use Rattle.printing.proofs.signals.+write.Goals as goal

pub put_flip-from-requires : goal.put_flip-from-requires
put_flip-from-requires t c = flip_fits c.requires

-- ---- a letter

pub overflow_cast-x : goal.overflow_cast-x
overflow_cast-x t c = omega (arith, c.requires.sheet.inputs)

pub overflow_add-x : goal.overflow_add-x
overflow_add-x t c = omega (arith, c.requires.sheet.inputs)

pub put-requires : goal.put-requires
put-requires t c = has_one (letter_parts c.requires c.if-x-n.true c.put_flip-from.ensures)

pub returns-then-x-n : goal.returns-then-x-n
returns-then-x-n t c =
    all_put (next (letter_parts c.requires c.if-x-n.true c.put_flip-from.ensures) c.put.ensures)

-- ---- a cell, which the record says

pub pair_of-requires : goal.pair_of-requires
pair_of-requires t c = pair_ready c.requires c.if-x-n.false

-- ---- of two inputs: what is put, and what is left, after each step

pub put-left-requires : goal.put-left-requires
put-left-requires t c =
    let k = at_cell c.pair_of.result c.requires c.if-x-n.false c.pair_of.ensures.0 c.put_flip-from.ensures in
    has_one (two-parts k c.in-Two.is)

pub write-middle-requires : goal.write-middle-requires
write-middle-requires t c =
    let k = at_cell c.pair_of.result c.requires c.if-x-n.false c.pair_of.ensures.0 c.put_flip-from.ensures in
    let f = form_is _ c.in-Some.ensures in
    let opened = next (two-parts k c.in-Two.is) c.put-left.ensures in
    low_room k c.in-Two.is (omega arith) (ap (λ (f : Form). f.not_low) f) (has_room opened)

pub put-right-requires : goal.put-right-requires
put-right-requires t c =
    let k = at_cell c.pair_of.result c.requires c.if-x-n.false c.pair_of.ensures.0 c.put_flip-from.ensures in
    let f = form_is _ c.in-Some.ensures in
    let opened = next (two-parts k c.in-Two.is) c.put-left.ensures in
    let low_put = next-flipped _ (ap (λ (f : Form). f.not_low) f) opened c.write-middle.ensures in
    has_one low_put

pub write-end-requires : goal.write-end-requires
write-end-requires t c =
    let k = at_cell c.pair_of.result c.requires c.if-x-n.false c.pair_of.ensures.0 c.put_flip-from.ensures in
    let f = form_is _ c.in-Some.ensures in
    let opened = next (two-parts k c.in-Two.is) c.put-left.ensures in
    let low_put = next-flipped _ (ap (λ (f : Form). f.not_low) f) opened c.write-middle.ensures in
    let mark-put = next-byte (ap (λ (f : Form). f.mark) f) low_put c.put-right.ensures in
    high_room k c.in-Two.is (omega arith) (ap (λ (f : Form). f.not_high) f) (has_room mark-put)

pub put-requires-in-Two : goal.put-requires-in-Two
put-requires-in-Two t c =
    let k = at_cell c.pair_of.result c.requires c.if-x-n.false c.pair_of.ensures.0 c.put_flip-from.ensures in
    let f = form_is _ c.in-Some.ensures in
    let opened = next (two-parts k c.in-Two.is) c.put-left.ensures in
    let low_put = next-flipped _ (ap (λ (f : Form). f.not_low) f) opened c.write-middle.ensures in
    let mark-put = next-byte (ap (λ (f : Form). f.mark) f) low_put c.put-right.ensures in
    let high_put = next-flipped _ (ap (λ (f : Form). f.not_high) f) mark-put c.write-end.ensures in
    has_one high_put

pub returns-in-Some : goal.returns-in-Some
returns-in-Some t c =
    let k = at_cell c.pair_of.result c.requires c.if-x-n.false c.pair_of.ensures.0 c.put_flip-from.ensures in
    let f = form_is _ c.in-Some.ensures in
    let opened = next (two-parts k c.in-Two.is) c.put-left.ensures in
    let low_put = next-flipped _ (ap (λ (f : Form). f.not_low) f) opened c.write-middle.ensures in
    let mark-put = next-byte (ap (λ (f : Form). f.mark) f) low_put c.put-right.ensures in
    let high_put = next-flipped _ (ap (λ (f : Form). f.not_high) f) mark-put c.write-end.ensures in
    all_put (next high_put c.put-in-Two.ensures)

-- ---- of one input: a digit, or the signal that it reads

pub put-requires-in-0 : goal.put-requires-in-0
put-requires-in-0 t c =
    let k = at_cell c.pair_of.result c.requires c.if-x-n.false c.pair_of.ensures.0 c.put_flip-from.ensures in
    has_one (digit-parts k 48 0 refl c.in-One.is c.in-0.is)

pub returns-in-0 : goal.returns-in-0
returns-in-0 t c =
    let k = at_cell c.pair_of.result c.requires c.if-x-n.false c.pair_of.ensures.0 c.put_flip-from.ensures in
    all_put (next (digit-parts k 48 0 refl c.in-One.is c.in-0.is) c.put-in-0.ensures)

pub put-requires-in-3 : goal.put-requires-in-3
put-requires-in-3 t c =
    let k = at_cell c.pair_of.result c.requires c.if-x-n.false c.pair_of.ensures.0 c.put_flip-from.ensures in
    has_one (digit-parts k 49 3 refl c.in-One.is c.in-3.is)

pub returns-in-3 : goal.returns-in-3
returns-in-3 t c =
    let k = at_cell c.pair_of.result c.requires c.if-x-n.false c.pair_of.ensures.0 c.put_flip-from.ensures in
    all_put (next (digit-parts k 49 3 refl c.in-One.is c.in-3.is) c.put-in-3.ensures)

pub write-requires : goal.write-requires
write-requires t c =
    let k = at_cell c.pair_of.result c.requires c.if-x-n.false c.pair_of.ensures.0 c.put_flip-from.ensures in
    one_room k c.in-One.is (omega arith) refl (has_room (same_parts k c.in-One.is (λ e. omega arith) (λ e. omega arith)))

pub returns-in_default : goal.returns-in_default
returns-in_default t c =
    let k = at_cell c.pair_of.result c.requires c.if-x-n.false c.pair_of.ensures.0 c.put_flip-from.ensures in
    all_put (next (same_parts k c.in-One.is (λ e. omega arith) (λ e. omega arith)) c.write.ensures)
