-- Laws of the definitions: numbers sifted out; chains that end; the pages that are kept, clause by clause; the store afterwards; a sound store;
-- the call.
pub mod Sieves
pub mod Ends
pub mod Keeping
pub mod ClauseLaws
pub mod Restored
pub mod Whole
pub mod CallLaws
pub mod Determined
