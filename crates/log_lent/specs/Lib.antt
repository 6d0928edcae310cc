-- What a request or a merge leaves in a lent log state, a lent log and lent room for results, with its answer.
pub mod Returned
