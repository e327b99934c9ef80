-- A few words for the claims, and the listing of examples.
pub mod Words
pub mod Questions
pub mod Before
pub mod Times
