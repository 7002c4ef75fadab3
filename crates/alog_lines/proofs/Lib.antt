mod WindowLemmas
mod CharLemmas
mod PieceLemmas
mod BuildLemmas
mod CutLemmas
mod LawLemmas
pub mod SharedCutting
pub mod SharedLines
