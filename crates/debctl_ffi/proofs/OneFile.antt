-- What is answered of an index of any number of files is answered of one of one file.
use Rattle.std.proofs.Common.{◌≡◌, ◌⊎◌, ℕ, Bool, true, false, List, Some, ap, inl, inr, refl, subst}
use Rattle.std.specs.Prelude.{IsTrue}
use Rattle.std.proofs.lemmas.Bool.{false≢true}
use Rattle.deb_relation.specs.Applying.{Environment}
use Rattle.deb_index.specs.Indexes.{packages_of}
use Rattle.deb_index.specs.declared.index.Index.{Index}
use Rattle.deb_unmet.specs.Scopes.{Scope}
use Rattle.deb_unmet.specs.declared.asked.Asked.{Asked}
use Rattle.deb_unmet.specs.declared.asking.Summary.{Summary}
use Rattle.deb_index.specs.Questions.{Question}
use Rattle.debctl_ffi.specs.Buffers.{Buffer}
use Rattle.debctl_ffi.specs.Loads.{AsksFiles, AsksQuery, HasFiles, HoldsIndex, IsNotLoaded, OfFiles, OfIndex}
use Rattle.debctl_ffi.specs.Queries.{LoadedFails, QueryFails, Reports, ReportsLoaded, kept_by}
use Rattle.debctl_ffi.specs.Options.{HasWanted, IsOld, IsWanted, Wanted, environment_wanted, is_good}
use Rattle.debctl_ffi.specs.Unmet.{HasLines}
use Rattle.debctl_ffi.specs.declared.answer.Answer.{Answer}
use Rattle.debctl_ffi.specs.declared.loaded.Loaded.{Loaded}
use Rattle.debctl_ffi.specs.declared.report.Detail.{Detail}
use Rattle.debctl_ffi.proofs.Reports.{on_one_file, refused_on}

has_files : (text : List ℕ) (loaded : Loaded) (holds : HoldsIndex text loaded) → HasFiles loaded (kept_by holds.index)
has_files text loaded holds = record { index = holds.index; is = holds.is; kept_are = refl }

reports_one : (detail : Detail) (q : Question) (loaded : Loaded) (told : Answer) (bytes : List ℕ)
    → ReportsLoaded detail q (OfFiles loaded) told bytes → Reports detail q (OfIndex loaded) told bytes
reports_one detail q loaded told bytes (inl met) = inl (
  met.0,
  λ text holds. on_one_file detail q text (kept_by holds.index) _ bytes holds.lists holds.alone
      (met.1 (kept_by holds.index) (has_files text loaded holds)),
)
reports_one detail q loaded told bytes (inr unmet) = inr (
  unmet.0,
  λ text holds. on_one_file detail q text (kept_by holds.index) _ bytes holds.lists holds.alone
      (unmet.1 (kept_by holds.index) (has_files text loaded holds)),
)

fails_one : (q : Question) (loaded : Loaded) (told : Answer) → (LoadedFails q told ⊎ IsNotLoaded loaded told)
    → (QueryFails q (OfIndex loaded) told ⊎ IsNotLoaded loaded told)
fails_one q loaded told (inl (inl bad)) = inl (inl (
  ap (λ a. a.status) bad.is,
  λ text holds. record {
    refusal = bad.refusal;
    refused = refused_on q text (kept_by holds.index) bad.refusal holds.lists bad.refused;
    is = bad.is;
  },
))
fails_one q loaded told (inl (inr memory)) = inl (inr memory)
fails_one q loaded told (inr none) = inr none

pub asks_one_file : (detail : Detail) (q : Question) (loaded : Loaded) (into : Buffer ℕ) (answer : Answer)
    → AsksFiles detail q loaded into answer → AsksQuery detail q loaded into answer
asks_one_file detail q loaded into answer (inl finds) = inl (record {
  told = finds.told;
  items = finds.items;
  found = reports_one detail q loaded finds.told finds.items finds.found;
  replies = finds.replies;
})
asks_one_file detail q loaded into answer (inr nothing) = inr (nothing.0, fails_one q loaded answer nothing.1)

-- ---- with options

pub old_asked : (old : Bool) (unless : Loaded) (index : Index) → old ≡ true → unless.index ≡ Some index → IsOld old unless (Some (packages_of index))
old_asked true unless index asked is = (index, (is, refl))
old_asked false unless index asked is = absurd (false≢true asked)

pub lines_wanted : (wanted : Wanted) (loaded unless : Loaded) (asks : Asked) (old : Bool) (scope : Scope) (index : Index) (environment : Environment) (summary : Summary) (bytes : List ℕ)
    → HasLines asks environment scope wanted.file summary bytes → IsWanted wanted asks old → IsTrue (is_good wanted) → environment ≡ environment_wanted wanted
    → loaded.index ≡ Some index → scope.packages ≡ packages_of index → IsOld old unless scope.unless → scope.without ≡ wanted.without
    → HasWanted wanted loaded unless summary bytes
lines_wanted wanted loaded unless asks old scope index environment summary bytes lines is good environment_is has packages olds names = record {
  asks = asks;
  old = old;
  is_wanted = is;
  good = good;
  scope = scope;
  over = record { index = index; is = has; packages = packages; old_are = olds; names_are = names };
  has = subst (λ e. HasLines asks e scope wanted.file summary bytes) environment_is lines;
}
