-- What fewest cells means, and tables that join all their inputs.
pub mod Fewest
pub mod Joining
