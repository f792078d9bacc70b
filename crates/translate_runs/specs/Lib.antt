pub mod CallRuns
