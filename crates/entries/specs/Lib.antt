-- From the rows of a plan to the words of the definitions, and the entries of a table that passed the check.
pub mod Parts
