-- Passes on the names of specifications and of lower crates that the proofs cite. Declares nothing.
pub use Rattle.std.proofs.Common.{All, Bool, Bor, IfNone, IfSome, IsFalse, IsTrue, List, None, Option, Some, [], ap, append_assoc, arith, cond, drop, false, fold, get_or, inl, inr, is_some, length, length-drop, length-take, map, nat_eq, nat_lt, not, one-add, option_and_then, option_copied, position, refl, replicate, reverse, rules, subst, suc, sym, take, tests, true, unwrap_or, zero, ℕ, ◌%◌, ◌&&◌, ◌*◌, ◌++◌, ◌+◌, ◌-◌, ◌/◌, ◌<◌, ◌==◌, ◌^◌, ◌||◌, ◌↔◌, ◌∙◌, ◌∷◌, ◌≡◌, ◌≢◌, ◌≤◌, ◌⊎◌}
pub use Rattle.std.proofs.lemmas.Bool.{and_from, and_parts, cases_Bool, cases_lt, eqb-false, eqb-true, false≢true, ne_eqb, not-false, not-true, not_from_false, not_from_true, true≢false}
pub use Rattle.std.proofs.lemmas.Bool.Decides.{Decides-eqb, nat_tests}
pub use Rattle.std.proofs.lemmas.List.{append-nil, drop_at, get_or-take, length-append, length-map, length-replicate, length-reverse, length_push, reverse-append, take-append-drop, take_all, take_at, take_rest}
pub use Rattle.std.proofs.lemmas.List.Elements.{All-weaker}
pub use Rattle.std.proofs.lemmas.List.Folds.{list_any-append, list_any_at, list_any_none}
pub use Rattle.std.proofs.lemmas.List.Sums.{position_or_len_is, prefix_len-le-length, suffix_len_is}
pub use Rattle.std.specs.Char.{is_ascii_digit}
pub use Rattle.std.specs.Cmp.{alike_right, nat_cmp_is, nat_cmp_total, ranks, tied_itself}
pub use Rattle.std.specs.Cmp.Lexicographic.{pointwise, same_text, slice_cmp}
pub use Rattle.std.specs.List.{AllByRecursion, after_first, after_last, before_first, before_last, list_all, list_any, position_from, position_or_len, prefix_len, suffix_len}
pub use Rattle.std.specs.Option.{is_none, option_eq, option_map, option_or}
pub use Rattle.std.specs.Ordering.{MatchOrdering, is_ne, nat_cmp, ordering_reverse, ordering_then}
pub use Rattle.std.specs.declared.cmp.Ordering.{Ordering}
pub use Rattle.std.specs.declared.cmp.Ordering.TheVariants.{Equal, Greater, Less}
pub use Rattle.deb_version.specs.Canonical.{Extends, canonical_components, canonical_epoch, canonical_revision, component_text, digits_of, ends_in_letter, holds_colon, holds_hyphen, is_no_revision, last_digits_of, version_text}
pub use Rattle.deb_version.specs.CanonicalLaws.{CanonicalTextDecides, CanonicalTextIsShort, CanonicalTextSpells, CanonicalTextStays, EqualVersionsHaveOneText}
pub use Rattle.deb_version.specs.Cuts.{cut_of, cuts_after}
pub use Rattle.deb_version.specs.Faults.{first_fault}
pub use Rattle.deb_version.specs.Grammar.{Components, SpellsVersion, are_components, components_with, epoch_faults, epoch_text, epoch_value, fault_if, fault_of, first_of, is_bad_in_revision, is_cut_at_hyphen, is_empty, is_no_digit, is_revision_byte, is_upstream_byte, meaning_of_components, revision_parts, revision_text, some_passes, spelling}
pub use Rattle.deb_version.specs.Hashes.{component_writes}
pub use Rattle.deb_version.specs.Order.{component_cmp, continued_cmp, empty_part, end_rank, part_cmp, rank_of, text_cmp, version_cmp}
pub use Rattle.deb_version.specs.OrderLemmas.{HasTexts-from_spelled, component_total, equal_trans, first_difference, ge_trans, le_total, le_trans, part_total, version_same, version_total}
pub use Rattle.deb_version.specs.Parts.{AreCuts, Cut, HasNoDigit, HasParts, IsDigits, Meaning, Part, cuts_of, joined, no_revision, part_of, parts_of, parts_of_cuts, value_after, value_of, with_byte, with_digit}
pub use Rattle.deb_version.specs.PartsLemmas.{AreCuts-cuts_of, cons_not_nil, has_parts, joined-cuts_of, one_parts}
pub use Rattle.deb_version.specs.Places.{components_in, epoch_in, is_colon, is_hyphen, rest_in, revision_in, upstream_in, version_in}
pub use Rattle.deb_version.specs.Version.{components_of, meaning_of}
pub use Rattle.deb_version.specs.declared.fault.BadVersion.{BadVersion}
pub use Rattle.deb_version.specs.declared.fault.BadVersion.TheVariants.{Empty, EpochEmpty, EpochNotNumber, EpochTooBig, RevisionByte, RevisionEmpty, UpstreamByte, UpstreamEmpty}
pub use Rattle.deb_version.specs.declared.version.Version.{Version}
