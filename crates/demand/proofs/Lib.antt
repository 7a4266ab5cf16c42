-- Demand 3 over bytes is proved in three floors.
-- Bytes: sound tables, their records, what an event writes, and what a hand-out leaves to be saved.
pub mod Range
pub mod Records
pub mod Written
pub mod Handing
pub mod History
-- The bridge: an answered call is a step of the rules, a run over bytes a run of the rules, and the demand follows.
pub mod Steps
pub mod Bridge
pub mod Demand
-- Not empty: every run of the rules is one over bytes, so that their scripts are, and some call commits.
pub mod Back
pub mod Witness
pub mod Commits
-- W1 to W10.
pub mod Answers
pub mod Worked
