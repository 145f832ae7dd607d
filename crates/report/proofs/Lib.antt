-- Lemmas on reports.
pub mod Agree
pub mod Fits
pub mod Tables
pub mod ValueLaws
pub mod MeetLaws
pub mod CleanRows
pub mod Marks
pub mod Steps
pub mod PrintLaws
pub mod KeptLaws
pub mod CheckLaws
pub mod ToldApart
pub mod AcceptedFiles
pub mod PlaceLaws
pub mod ReachLaws
