mod Arms
mod BigLaws
mod Found
mod DayTexts
mod Judged
mod LiveLaws
mod LiveParts
mod Marks
mod NameSteps
mod OnceLaws
mod OnceParts
mod PathMarks
pub mod SoundLaws
mod TipSteps
