-- Why the readers read what the grammar has, and the call what its lines say.
pub mod Steps
pub mod ByteKinds
pub mod Grammar
pub mod Reaching
pub mod Going
pub mod Place
pub mod Words
pub mod Table
