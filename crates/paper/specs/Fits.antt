-- What every value of the language's types satisfies: lists of seven, and numbers below their width. Assumes nothing.
use Rattle.std.specs.Prelude.{ℕ, ◌^◌, ◌<◌, ◌≡◌, List, [], ◌∷◌, length, get_or}
use Rattle.paper.specs.declared.Command.{Command}
use Rattle.paper.specs.declared.Vote.{Vote}
use Rattle.paper.specs.declared.Record.{Record}
use Rattle.paper.specs.declared.Carried.{Carried}
use Rattle.paper.specs.Message.{carried_in}
use Rattle.paper.specs.declared.Message.{Message}

pub record CommandFits (k : Command) : Type 0 where
  pub key : k.key < 256 ^ 4
  pub second : k.second < 256 ^ 4
  pub edit : k.edit < 256 ^ 8

pub record DepsFit (d : List ℕ) : Type 0 where
  pub seven : length d ≡ 7
  pub each : (i : ℕ) → get_or d i 0 < 256 ^ 2

pub record VoteFits (v : Vote) : Type 0 where
  pub voted : v.voted < 256 ^ 4
  pub status : v.status < 256
  pub command : CommandFits v.command
  pub deps : DepsFit v.deps

abbrev pub VotesFit : List Vote → Type 0
VotesFit [] = Unit {0}
VotesFit (v ∷ vs) = VoteFits v × VotesFit vs

pub record RecordFits (r : Record) : Type 0 where
  pub joined : r.joined < 256 ^ 4
  pub vote : VoteFits r.vote
  pub mark : r.mark < 256
  pub phase : r.phase < 256
  pub set : r.set < 256
  pub seven : length r.replies ≡ 7
  pub replies : VotesFit r.replies

pub record CarriedFits (x : Carried) : Type 0 where
  pub voted : x.voted < 256 ^ 4
  pub status : x.status < 256
  pub command : CommandFits x.command
  pub joined : x.joined < 256 ^ 4

pub record MessageFits (m : Message) : Type 0 where
  pub from : m.from < 256
  pub to : m.to < 256
  pub owner : m.owner < 256
  pub number : m.number < 256 ^ 2
  pub ballot : m.ballot < 256 ^ 4
  pub body : CarriedFits (carried_in m.body)
  pub deps : DepsFit m.deps
