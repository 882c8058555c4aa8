pub mod SourceCode
