pub mod AnswerNamed
pub mod StepCalls
pub mod OrderTexts
pub mod OrderPages
pub mod RunTexts
pub mod OpenedNamed
