-- What the code's results say: each refusal's number in the paper, and what it names besides.
use Rattle.std.specs.Prelude.{ℕ, Result, Ok, Err}
use Rattle.refusals.specs.Verdicts.{Refusal, Verdict, Fine, Refused}
use Rattle.refusals.specs.declared.verdicts.Refusal.{Refusal as Why}
use Rattle.refusals.specs.declared.verdicts.Refusal.TheVariants.{Inputs, Cell, Edition, Table, Spare, Sets, Desk, Cells, Room, Nothing, NoSplit, Broken, Sheet, Record, Assignment, Differs, Time, Slack, Unread, Text, NotPrinted, Long, Closed, OtherDesk, Card, Turn, NotShown}
use Rattle.refusals.specs.Lines.{refusal}

-- the paper's number, and what is named besides
abbrev pub refusal_of : Why → Refusal
refusal_of Inputs = refusal 1 0
refusal_of Cell = refusal 2 0
refusal_of Edition = refusal 2 0
refusal_of Table = refusal 3 0
refusal_of Spare = refusal 4 0
refusal_of Sets = refusal 5 0
refusal_of Desk = refusal 5 0
refusal_of Cells = refusal 5 0
refusal_of Room = refusal 6 0
refusal_of Nothing = refusal 7 0
refusal_of NoSplit = refusal 8 0
refusal_of (Broken b columns) = refusal 8 b
refusal_of Sheet = refusal 9 0
refusal_of (Record i) = refusal 10 i
refusal_of Assignment = refusal 11 0
refusal_of (Differs x) = refusal 12 x
refusal_of Time = refusal 13 0
refusal_of Slack = refusal 14 0
refusal_of (Unread i) = refusal 15 i
refusal_of (Text place) = refusal 16 place
refusal_of NotPrinted = refusal 16 0
refusal_of Long = refusal 17 0
refusal_of Closed = refusal 18 0
refusal_of OtherDesk = refusal 19 0
refusal_of Card = refusal 20 0
refusal_of Turn = refusal 21 0
refusal_of (NotShown at) = refusal 22 at

-- what a result says, whatever it holds where nothing is wrong
abbrev pub verdict_of : {A : Type 0} → Result A Why → Verdict
verdict_of (Ok a) = Fine
verdict_of (Err why) = Refused (refusal_of why)

-- how many columns a refusal counts
abbrev pub columns_of : Why → ℕ
columns_of (Broken b columns) = columns
columns_of _ = 0
