-- "Messages": each kind in bytes, with every field and every dependency different. Assumes nothing.
use Rattle.std.specs.Prelude.{ℕ, ◌≡◌, List, [], ◌∷◌, ◌++◌}
use Rattle.paper.specs.declared.Op.TheVariants.{Read, Rewire}
use Rattle.paper.specs.declared.Command.{Command}
use Rattle.paper.specs.declared.Body.{Body}
use Rattle.paper.specs.declared.Body.TheVariants.{PreAccept, PreAcceptOk, Accept, AcceptOk, Commit, Prepare, PrepareOk, Nack}
use Rattle.paper.specs.declared.Message.{Message}
use Rattle.wire.specs.Wire.{message_bytes}

abbrev pub deps : List ℕ
deps = 0x2120 ∷ 0x2322 ∷ 0x2524 ∷ 0x2726 ∷ 0x2928 ∷ 0x2b2a ∷ 0x2d2c ∷ []

abbrev pub read : Command
read = record { op = Read; key = 0x33323130; second = 0; edit = 0x3b3a393837363534 }

abbrev pub rewire : Command
rewire = record { op = Rewire; key = 0x33323130; second = 0x37363534; edit = 0x3f3e3d3c3b3a3938 }

abbrev pub said : Body → Message
said b = record { from = 5; to = 6; owner = 4; number = 0x1110; ballot = 0x15141312; body = b; deps = deps }

abbrev pub head_of : ℕ → List ℕ
head_of k = k ∷ 5 ∷ 6 ∷ 4 ∷ 0x10 ∷ 0x11 ∷ 0x12 ∷ 0x13 ∷ 0x14 ∷ 0x15 ∷ []

abbrev pub in_deps : List ℕ
in_deps = 0x20 ∷ 0x21 ∷ 0x22 ∷ 0x23 ∷ 0x24 ∷ 0x25 ∷ 0x26 ∷ 0x27 ∷ 0x28 ∷ 0x29 ∷ 0x2a ∷ 0x2b ∷ 0x2c ∷ 0x2d ∷ []

abbrev pub in_read : List ℕ
in_read = 1 ∷ 0x30 ∷ 0x31 ∷ 0x32 ∷ 0x33 ∷ 0x34 ∷ 0x35 ∷ 0x36 ∷ 0x37 ∷ 0x38 ∷ 0x39 ∷ 0x3a ∷ 0x3b ∷ []

abbrev pub in_rewire : List ℕ
in_rewire = 3 ∷ 0x30 ∷ 0x31 ∷ 0x32 ∷ 0x33 ∷ 0x34 ∷ 0x35 ∷ 0x36 ∷ 0x37 ∷ 0x38 ∷ 0x39 ∷ 0x3a ∷ 0x3b ∷ 0x3c ∷ 0x3d ∷ 0x3e ∷ 0x3f ∷ []

pub record Examples : Type 0 where
  pub pre_accept : message_bytes (said (PreAccept read)) ≡ head_of 1 ++ in_read ++ in_deps
  pub pre_accept_ok : message_bytes (said PreAcceptOk) ≡ head_of 2 ++ in_deps
  pub accept : message_bytes (said (Accept read)) ≡ head_of 3 ++ in_read ++ in_deps
  pub accept_ok : message_bytes (said AcceptOk) ≡ head_of 4
  pub commit : message_bytes (said (Commit read)) ≡ head_of 5 ++ in_read ++ in_deps
  pub prepare : message_bytes (said Prepare) ≡ head_of 6
  pub prepare_ok : message_bytes (said (PrepareOk 0x43424140 3 read)) ≡ head_of 7 ++ (0x40 ∷ 0x41 ∷ 0x42 ∷ 0x43 ∷ 3 ∷ []) ++ in_read ++ in_deps
  pub nack : message_bytes (said (Nack 0x43424140)) ≡ head_of 8 ++ (0x40 ∷ 0x41 ∷ 0x42 ∷ 0x43 ∷ [])
  pub long_pre_accept : message_bytes (said (PreAccept rewire)) ≡ head_of 9 ++ in_rewire ++ in_deps
  pub long_accept : message_bytes (said (Accept rewire)) ≡ head_of 10 ++ in_rewire ++ in_deps
  pub long_commit : message_bytes (said (Commit rewire)) ≡ head_of 11 ++ in_rewire ++ in_deps
  pub long_prepare_ok : message_bytes (said (PrepareOk 0x43424140 3 rewire)) ≡ head_of 12 ++ (0x40 ∷ 0x41 ∷ 0x42 ∷ 0x43 ∷ 3 ∷ []) ++ in_rewire ++ in_deps
