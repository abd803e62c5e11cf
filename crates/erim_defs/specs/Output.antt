-- What the program reads and writes: words, reports, journals, generated images.
pub mod Texts
pub mod WordForms
pub mod Words
pub mod Journal
pub mod Report
pub mod LayImage
pub mod GeneratedImage
pub mod GeneratedTexts
pub mod RewriteTexts
