-- Demand 3 for the controller's calls: the claim, a run that meets its premises, and the table of cases by number. The book and
-- the premises are in the crate `credits`.
pub mod Agreement
pub mod Example
pub mod Cases
