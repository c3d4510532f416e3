-- What a call borrows for a lifetime, as by `&`, and a share of the right to that lifetime.
use base.Fml.{Lft, Share}

pub record Loan (T : Type 0) : Type 0 where
  pub lifetime : Lft
  pub share : Share
  pub value : T

-- two of them
pub record Loans (T : Type 0) : Type 0 where
  pub first : Loan T
  pub second : Loan T
