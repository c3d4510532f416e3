-- What is read of groups as a field needs them is what is read of the groups themselves.
use Rattle.std.proofs.Common.{◌≡◌, ℕ, ◌-◌, ◌||◌, Bool, true, false, cond, List, [], ◌∷◌, length, map, drop, codes, Option, Some, None, Ok, Err, refl, sym, ap, ◌∙◌}
use Rattle.std.specs.List.{list_all, list_any}
use Rattle.std.specs.Option.{option_map}
use Rattle.deb_relation.specs.declared.fault.Reason.{Reason}
use Rattle.deb_relation.specs.declared.group_summary.GroupSummary.{GroupSummary}
use Rattle.deb_relation.specs.declared.fault.Reason.TheVariants.{Trailing}
use Rattle.deb_relation.specs.Bodies.{meaning_of, meaning_in}
use Rattle.deb_relation.specs.Faults.{fault_of, first_fault}
use Rattle.deb_relation.specs.Grammar.{set_of}
use Rattle.deb_relation.specs.Meaning.{Group, Relation}
use Rattle.deb_relation.specs.Reading.{Reading, Next, and_then, mapped, gather, begins, is_at_end, behind_white, read_group, piece_behind, next_piece, put_piece, placed, read_relation, relation_in}
use Rattle.deb_relation.specs.Summaries.{Summary, summary_of, summary_key, read_summary, summary_behind, next_summary, append_summary, put_summary}
use Rattle.deb_relation.specs.SummaryViews.{told_of}
use Rattle.deb_relation.specs.Tests.{has_alternatives, only_equals}
use Rattle.deb_relation.specs.Texts.{joined, group_text, relation_text}
use Rattle.deb_relation.proofs.GatheredSets.{put_member}
use Rattle.deb_relation.proofs.Gathering.{IsStep}
use Rattle.deb_relation.proofs.Inserting.{map-insert_by}
use Rattle.deb_relation.proofs.Mapped.{any-map, all-map}
use Rattle.deb_relation.proofs.ReadParts.{ok-same}
use Rattle.deb_relation.proofs.ReadRelation.{step-next_piece}
use Rattle.deb_relation.proofs.Viewed.{mapped_next, gather-viewed, step-viewed}

next_viewed : (text : List ℕ) → next_summary text ≡ mapped_next (option_map summary_of) (next_piece text)
unfolding next_summary next_piece read_summary
next_viewed text =
    by_tests (is_at_end (behind_white text)) (begins 44 (behind_white text)) (read_group (behind_white text))
  where
    behind : (group : Group) (rest : List ℕ) → summary_behind (summary_of group) rest ≡ mapped_next (option_map summary_of) (piece_behind group rest)
    behind group rest = by_end (is_at_end rest || begins 44 rest)
      where
        by_end : (b : Bool) → (let r : Next (Option Summary) = cond b (Ok (Some (Some (summary_of group), drop 1 rest))) (Err (Trailing, length rest)) in r) ≡ mapped_next (option_map summary_of) (cond b (Ok (Some (Some group, drop 1 rest))) (Err (Trailing, length rest)))
        by_end true = refl
        by_end false = refl

    by_group : (r : Reading Group) → and_then (mapped summary_of r) summary_behind ≡ mapped_next (option_map summary_of) (and_then r piece_behind)
    by_group (Ok p) = behind p.0 p.1
    by_group (Err stopped) = refl

    by_tests : (at_end comma : Bool) (r : Reading Group) → cond at_end (Ok None) (cond comma (Ok (Some (None, drop 1 (behind_white text)))) (and_then (mapped summary_of r) summary_behind)) ≡ mapped_next (option_map summary_of) (cond at_end (Ok None) (cond comma (Ok (Some (None, drop 1 (behind_white text)))) (and_then r piece_behind)))
    by_tests true comma r = refl
    by_tests false true r = refl
    by_tests false false r = by_group r

pub step-next_summary : IsStep next_summary
step-next_summary = step-viewed next_piece next_summary (option_map summary_of) next_viewed step-next_piece

pub put_told : (piece : Option Summary) (all : List Summary) → set_of summary_key (append_summary piece all) ≡ put_summary piece (set_of summary_key all)
put_told None all = refl
put_told (Some summary) all = put_member summary_key summary all

put_viewed : (piece : Option Group) (all : Relation) → map summary_of (put_piece piece all) ≡ put_summary (option_map summary_of piece) (map summary_of all)
put_viewed None all = refl
put_viewed (Some group) all = map-insert_by summary_of summary_key group all

summaries_read : (body : List ℕ) → gather next_summary put_summary [] body ≡ mapped (map summary_of) (read_relation body)
unfolding read_relation
summaries_read body = gather-viewed next_piece next_summary (option_map summary_of) next_viewed put_piece put_summary (map summary_of) put_viewed [] body

-- the summaries are those of a relation that the body means
pub record IsTold (body : List ℕ) (told : List Summary) : Type 0 where
  pub read : relation_in body ≡ Ok (meaning_in body)
  pub are : told ≡ map summary_of (meaning_in body)

pub told : (body : List ℕ) (all : List Summary) (rest : List ℕ) → gather next_summary put_summary [] body ≡ Ok (all, rest) → IsTold body all
unfolding relation_in
told body all rest e = from (read_relation body) refl (sym (summaries_read body) ∙ e)
  where
    from : (r : Reading Relation) → read_relation body ≡ r → mapped (map summary_of) r ≡ Ok (all, rest) → IsTold body all
    from (Err stopped) is e = absurd cc
    from (Ok p) is e =
        let means : relation_in body ≡ Ok p.0 = ap (placed (length body)) is in
        let m : meaning_in body ≡ p.0 = ap meaning_of means in
        let same = ap (λ q. q.0) (ok-same (map summary_of p.0, p.1) (all, rest) e) in
        record { read = means ∙ ap Ok (sym m); are = sym same ∙ ap (map summary_of) (sym m) }

pub untold : (body : List ℕ) (reason : Reason) (left : ℕ) → gather next_summary put_summary [] body ≡ Err (reason, left) → gather next_piece put_piece [] body ≡ Err (reason, left)
unfolding read_relation
untold body reason left e = from (gather next_piece put_piece [] body) refl (sym (summaries_read body) ∙ e)
  where
    from : (r : Reading Relation) → gather next_piece put_piece [] body ≡ r → mapped (map summary_of) r ≡ Err (reason, left) → gather next_piece put_piece [] body ≡ Err (reason, left)
    from (Err stopped) is e = is ∙ cc
    from (Ok p) is e = absurd cc

pub told_fault : (body : List ℕ) (reason : Reason) (left : ℕ) → gather next_summary put_summary [] body ≡ Err (reason, left) → first_fault body ≡ Some (reason, length body - left)
unfolding relation_in read_relation
told_fault body reason left e = ap (λ r. fault_of (placed (length body) r)) (untold body reason left e)

-- the summaries of the groups are those of the relation
module _ (body : List ℕ) (groups : List GroupSummary) (is : IsTold body (map told_of groups)) where
  texts_are : (m : Relation) → map summary_key (map summary_of m) ≡ map group_text m
  texts_are [] = refl
  texts_are (group ∷ m) = ap (λ texts. group_text group ∷ texts) (texts_are m)

  pub told_text : joined (codes ", ") (map summary_key (map told_of groups)) ≡ relation_text (meaning_in body)
  told_text = ap (λ all. joined (codes ", ") (map summary_key all)) is.are ∙ ap (joined (codes ", ")) (texts_are (meaning_in body))

  pub told_alternatives : list_any (λ group. group.has_two) groups ≡ has_alternatives (meaning_in body)
  told_alternatives = any-map told_of (λ s. s.has_two) groups ∙ ap (list_any (λ s. s.has_two)) is.are ∙ sym (any-map summary_of (λ s. s.has_two) (meaning_in body))

  pub told_equals : list_all (λ group. group.only_equals) groups ≡ only_equals (meaning_in body)
  told_equals = all-map told_of (λ s. s.only_equals) groups ∙ ap (list_all (λ s. s.only_equals)) is.are ∙ sym (all-map summary_of (λ s. s.only_equals) (meaning_in body))
