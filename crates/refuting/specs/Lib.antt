-- Showing that m cells are too few: a certificate's header and steps, and the call.
pub mod Numbers
pub mod Steps
pub mod Looking
pub mod TooFew
