-- The proof of demand 3, each file over those before it; `demand_3` is in Agreement.
pub mod Splitting
pub mod Rules
pub mod Links
pub mod ByDefinition
pub mod NoticeFollows
pub mod Replying
pub mod Acknowledging
pub mod Succeeding
pub mod DataFollows
pub mod CommandFollows
pub mod PacketFollows
pub mod Agreement
pub mod Example
pub mod Marked
