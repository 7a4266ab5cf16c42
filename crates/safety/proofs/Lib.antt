-- Demand 3 is proved in four floors. In all of it r, i and q are copies, b is a ballot, v and w are values, R and X records of the
-- model, Q a set of copies, I and J instances; e and f are equations, n says that something is not so, li that i is in range.
-- Plain facts: sets of bits, dependencies.
pub mod Sets
pub mod Deps
pub mod Value
-- A model: one instance's records with the history of all that was ever saved, then many instances, then marks.
-- Agree proves agreement from the laws of a history; Inv proves those laws of every run of the model.
pub mod Case
pub mod Hist
pub mod Sys
pub mod Star
pub mod Agree
pub mod Older
pub mod Inv
-- The rules as they stand: each event is one move of the model, or none.
pub mod Rel
pub mod Received
pub mod Instances
-- Runs of tables beside runs of the model, the demand, and scripts which show that it is not empty.
pub mod Sim
pub mod Moves
pub mod Marks
pub mod Runs
pub mod Handing
pub mod Commits
pub mod Ordered
pub mod Listed
pub mod Demand
pub mod Witness
