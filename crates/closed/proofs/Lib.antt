-- Plain facts: tests, sets of bits, dependencies, votes.
pub mod Laws
pub mod Sets
pub mod Deps
pub mod Votes
-- A sound record clause by clause, the records that rules make, the messages they send, a valid message clause by clause.
pub mod Sound
pub mod Shapes
pub mod Says
pub mod Heard
-- Each rule.
pub mod Back
pub mod Accepting
pub mod Request
pub mod PreAccept
pub mod PreAcceptOk
pub mod Accept
pub mod AcceptOk
pub mod Commit
pub mod Prepare
pub mod PrepareOk
pub mod Nack
pub mod Received
pub mod Recover
pub mod Nudge
pub mod Mark
-- Every event on a whole table.
pub mod Closed
