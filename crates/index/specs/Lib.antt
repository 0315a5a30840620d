-- What is stated of the entries beyond their contracts: what they answer, from the table and the row bytes alone; the
-- customer's demands; the worked cases of document 01; and the demands on the slim profile.
pub mod Answers
pub mod Demands
pub mod Worked
pub mod Slim
