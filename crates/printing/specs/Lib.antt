-- Sheets printed as formulas: the text of a sheet, which sheets are printed, and the call that writes one.
pub mod Forms
pub mod Print
pub mod Printable
pub mod Pairs
pub mod Put
pub mod WriteFormula
