-- The definitions of the commands: what each tests, answers and changes. Sections are those of the Bluetooth Core Specification
-- 5.4, Vol 4 Part E unless named.
pub mod Status
pub mod Parts
pub mod Put
pub mod Outcome
pub mod Refused
pub mod Checks
pub mod Following
pub mod Known
pub mod Air
pub mod Link
pub mod Privacy
pub mod Test
pub mod Table
pub mod Command
pub mod Leaves
pub mod Cases
