pub mod Condition1
pub mod Condition2
pub mod Condition3
pub mod Empty
pub mod RuledOut
pub mod Statements
