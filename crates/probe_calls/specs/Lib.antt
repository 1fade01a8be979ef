-- What the program writes, and what the lists that it lends hold before a call.
pub mod AnswerText
