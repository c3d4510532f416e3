-- What the answer over an index and another file says of the counts of failed calls.
use Rattle.std.proofs.Common.{◌≡◌, ◌<◌, ℕ, List, length, Some, Result, Ok, Err, inl, inr, arith, refl}
use Rattle.std.specs.Prelude.{⊤}
use Rattle.deb_base.specs.Devices.{read_failures_after, write_failures_after}
use Rattle.deb_base.specs.declared.fault.Fault.{Fault}
use Rattle.deb_base.specs.declared.fault.Fault.TheVariants.{Refused, Memory, Read, Write}
use Rattle.deb_base.specs.declared.refusal.Refusal.{Refusal}
use Rattle.deb_base.specs.declared.doc.Doc.TheVariants as docs
use Rattle.deb_control.specs.Documents.{refusal_of}
use Rattle.deb_control.specs.declared.side.Side.{Side}
use Rattle.deb_control.proofs.ComparedSoFar.{none_refused}
use Rattle.deb_index.specs.Listed.{Listed}
use Rattle.deb_index.specs.Members.{ListsMembers, doc_of}
use Rattle.deb_index.specs.declared.members.Members.{Members}
use Rattle.deb_index.specs.declared.members.Members.TheVariants.{All, Installed}
use Rattle.deb_unmet.specs.declared.asking.Summary.{Summary}
use Rattle.debctl_commands.specs.JobDevices.{WriterOfJob}
use Rattle.debctl_commands.specs.SideAnswers.{ReportsTried, at_side}

-- an index that was read isn't refused
pub no_index : (members : Members) (text : List ℕ) (packages : List Listed) (refusal : Refusal) → ListsMembers members text packages → refusal_of (doc_of members) text ≡ Some refusal → ⊥
no_index All text packages refusal lists refused =
    let none = none_refused docs.Packages text (length lists.meaning) (record { meaning = lists.meaning; accepted = lists.accepted; count = refl }) in
    let bad : ⊥ = cc in bad
no_index Installed text packages refusal lists refused =
    let none = none_refused docs.Status text (length lists.meaning) (record { meaning = lists.meaning; accepted = lists.accepted; count = refl }) in
    let bad : ⊥ = cc in bad

module _ {E : Type 0} (err : WriterOfJob E) (side : Side) (status n n_after : ℕ) (rose : n < n_after) where
  -- where the count of failed reads or writes rose, the status is 3
  pub read_is_three : (tried : Result Summary Fault) → n_after ≡ read_failures_after n tried → ReportsTried err (at_side side tried) status → status ≡ 3
  read_is_three (Err Read) counted (inl whole) = whole.status
  read_is_three (Err Read) counted (inr front) = front.status
  read_is_three (Ok summary) counted reports = absurd (omega (arith, counted, rose))
  read_is_three (Err (Refused refusal)) counted reports = absurd (omega (arith, counted, rose))
  read_is_three (Err Memory) counted reports = absurd (omega (arith, counted, rose))
  read_is_three (Err Write) counted reports = absurd (omega (arith, counted, rose))

  pub write_is_three : (tried : Result Summary Fault) → n_after ≡ write_failures_after n tried → ReportsTried err (at_side side tried) status → status ≡ 3
  write_is_three (Err Write) counted (inl whole) = whole.status
  write_is_three (Err Write) counted (inr front) = front.status
  write_is_three (Ok summary) counted reports = absurd (omega (arith, counted, rose))
  write_is_three (Err (Refused refusal)) counted reports = absurd (omega (arith, counted, rose))
  write_is_three (Err Memory) counted reports = absurd (omega (arith, counted, rose))
  write_is_three (Err Read) counted reports = absurd (omega (arith, counted, rose))

  pub index_is_three : (fault : Fault) → n_after ≡ read_failures_after {T = ⊤} n (Err fault) → ReportsTried err (at_side side (Err fault)) status → status ≡ 3
  index_is_three Read counted (inl whole) = whole.status
  index_is_three Read counted (inr front) = front.status
  index_is_three (Refused refusal) counted reports = absurd (omega (arith, counted, rose))
  index_is_three Memory counted reports = absurd (omega (arith, counted, rose))
  index_is_three Write counted reports = absurd (omega (arith, counted, rose))
