-- What the exported calls' contracts say of their answers, which `calls` defines, and what the inner functions give.
pub mod Answers
pub mod Asked
