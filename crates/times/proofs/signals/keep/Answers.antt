-- `keep` meets its contract, case by case. Assumes nothing.
use Rattle.std.proofs.Common.{◌≡◌, Bool, true, false, cond, sym, ap, ◌∙◌}
use lib.Ieee.{Float, lt}
use Rattle.times.specs.Signals.{keeping}
use Rattle.times.proofs.signals.keep.Goals as goal
use Rattle.times.proofs.signals.keep.Goals.{then-late, else-late}

greater : {late r : Bool} (x y : Float) → late ≡ true → lt x y ≡ r → cond r y x ≡ keeping late x y
unfolding keeping
greater x y h k = sym (ap (λ (l : Bool). keeping l x y) h ∙ ap (λ (t : Bool). cond t y x) k)

lesser : {late r : Bool} (x y : Float) → late ≡ false → lt y x ≡ r → cond r y x ≡ keeping late x y
unfolding keeping
lesser x y h k = sym (ap (λ (l : Bool). keeping l x y) h ∙ ap (λ (t : Bool). cond t y x) k)

pub returns-then-passed : goal.returns-then-passed
returns-then-passed c =
    elim c.if-late.branch [
      | then-late w ↦ greater c.args.x c.args.y w.if-late.true (sym w.passed-is ∙ c.if-passed.true)
      | else-late w ↦ lesser c.args.x c.args.y w.if-late.false (sym w.passed-is ∙ c.if-passed.true)
    ]

pub returns-else-passed : goal.returns-else-passed
returns-else-passed c =
    elim c.if-late.branch [
      | then-late w ↦ greater c.args.x c.args.y w.if-late.true (sym w.passed-is ∙ c.if-passed.false)
      | else-late w ↦ lesser c.args.x c.args.y w.if-late.false (sym w.passed-is ∙ c.if-passed.false)
    ]
