mod NumberLemmas
mod CallLemmas
mod LineLemmas
mod FewLines
mod Examples
