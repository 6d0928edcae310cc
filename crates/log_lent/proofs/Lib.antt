-- Laws of requests on a lent state.
pub mod Made
-- Laws of a request's answer and the state that it leaves.
pub mod Joined
