-- Answers as numbers, where an enum or a returned slice cannot cross to C. Assumes nothing.
use Rattle.std.specs.Prelude.{ℕ, List, [], ◌∷◌, Result}
use Rattle.paper.specs.declared.Refusal.{Refusal}
use Rattle.gate.specs.declared.Event.{Event}
use Rattle.gate.specs.Events.{answer_owner, answer_instance, answer_written, answer_offset}

-- owner, number, bytes written; for a refusal 0, and the offset of a bad field
abbrev pub answer_values : Result Event Refusal → List ℕ
answer_values a = answer_owner a ∷ answer_instance a ∷ answer_written a ∷ answer_offset a ∷ []
