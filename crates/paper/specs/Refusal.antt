-- "Refusal numbers". Assumes nothing.
use Rattle.std.specs.Prelude.{ℕ}
use Rattle.paper.specs.declared.Refusal.{Refusal}
use Rattle.paper.specs.declared.Refusal.TheVariants.{Setup, Unsound, Room, UnknownKind, WrongLength, WrongWay, WrongLead, WrongField, Op, Instance, RecoverCommitted, NudgeIdle, BallotsUsedUp, NoBlank, OtherCommit}

abbrev pub number_of : Refusal → ℕ
number_of Setup = 1
number_of Unsound = 11
number_of Room = 2
number_of UnknownKind = 31
number_of WrongLength = 32
number_of WrongWay = 33
number_of WrongLead = 34
number_of (WrongField k) = 35
number_of Op = 4
number_of Instance = 6
number_of RecoverCommitted = 8
number_of NudgeIdle = 9
number_of BallotsUsedUp = 7
number_of NoBlank = 5
number_of OtherCommit = 10

-- the offset that comes with a number, 0 where none does
abbrev pub offset_in : Refusal → ℕ
offset_in Setup = 0
offset_in Unsound = 0
offset_in Room = 0
offset_in UnknownKind = 0
offset_in WrongLength = 0
offset_in WrongWay = 0
offset_in WrongLead = 0
offset_in (WrongField k) = k
offset_in Op = 0
offset_in Instance = 0
offset_in RecoverCommitted = 0
offset_in NudgeIdle = 0
offset_in BallotsUsedUp = 0
offset_in NoBlank = 0
offset_in OtherCommit = 0
