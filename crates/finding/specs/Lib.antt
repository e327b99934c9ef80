-- What finding the best split returns and leaves behind; in the first edition, or a told one.
pub mod FindBest
pub mod FindTold
