-- Lemmas on what a layer remembers.
pub mod MemoFifo
pub mod MemoRecords
pub mod MemoFaith
