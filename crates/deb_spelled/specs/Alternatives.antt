-- The alternatives of a relation as they are spelled, in the order of its text (Debian Policy 7.1).
use Rattle.std.specs.Prelude.{◌≡◌, ℕ, zero, suc, ◌||◌, ◌==◌, Bool, if◌then◌else◌, List, [], ◌∷◌, length, drop, Option, Some, None, codes, refl}
use denote.Ref.{Bor}
use Rattle.deb_relation.specs.Reading.{begins, behind_run, behind_white, is_at_end, is_white}
use Rattle.deb_base.specs.Literals.{lent}
use Rattle.deb_spelled.specs.declared.alternative.AlternativeSpans.{AlternativeSpans}
use Rattle.deb_spelled.specs.Parts.{cut_architectures, cut_bound, cut_formula, cut_name, cut_qualifier, no_span, steps}

-- the parts of the alternative that a text begins with, and the text after it
unfoldable pub cut_alternative : ℕ → ℕ → List ℕ → AlternativeSpans × List ℕ
cut_alternative total group text =
    let name = cut_name total text in
    let qualifier = cut_qualifier total name.1 in
    let bound = cut_bound total qualifier.1 in
    let architectures = cut_architectures total bound.2 in
    let formula = cut_formula total architectures.1 in (
      record {
        group = group;
        name = name.0;
        qualifier = qualifier.0;
        operator = bound.0;
        version = bound.1;
        architectures = architectures.0;
        formula = formula.0;
      },
      formula.1,
    )

-- the parts of an alternative, with the text after it as a list
abbrev pub cut_behind : AlternativeSpans × Bor (List ℕ) → AlternativeSpans × List ℕ
cut_behind p = (p.0, p.1.now)

-- white space, and the comma after a group
abbrev pub is_gap : ℕ → Bool
is_gap b = is_white b || (b == 44)

-- The next alternative and the text after it, if there is a further one. After a bar it belongs to
-- the group of the one before it, else to the next group.
unfoldable pub next_alternative : ℕ → ℕ → List ℕ → Option (AlternativeSpans × List ℕ)
next_alternative total group text =
    let here = behind_run is_gap text in
    if is_at_end here then None
    else if begins 124 here then Some
    (cut_alternative total group (behind_white (drop 1 here)))
    else Some (cut_alternative total (suc group) here)

abbrev pub with_more : Option (AlternativeSpans × List ℕ)
    → (AlternativeSpans → List ℕ → List AlternativeSpans) → List AlternativeSpans
with_more None more = []
with_more (Some p) more = p.0 ∷ more p.0 p.1

-- at most so many alternatives, the first after one of this group
abbrev pub alternatives_from : ℕ → ℕ → ℕ → List ℕ → List AlternativeSpans
alternatives_from zero total group text = []
alternatives_from (suc n) total group text =
    with_more (next_alternative total group text) (λ a rest. alternatives_from n total a.group rest)

-- all of them; each takes a byte at least
unfoldable pub alternatives_in : List ℕ → List AlternativeSpans
alternatives_in text = alternatives_from (length text) (length text) 0 text

-- an alternative of a name alone
abbrev bare : ℕ → ℕ → ℕ → AlternativeSpans
bare group start size =
    record {
      group = group;
      name = record { start = start; length = size };
      qualifier = no_span;
      operator = no_span;
      version = no_span;
      architectures = no_span;
      formula = no_span;
    }

-- all parts
worked-parts : alternatives_in (codes " aa:any ( <<\t01.0 ) [ !i386 ] < !x y > <z>\n")
    ≡ record {
      group = 1;
      name = record { start = 1; length = 2 };
      qualifier = record { start = 4; length = 3 };
      operator = record { start = 10; length = 2 };
      version = record { start = 13; length = 4 };
      architectures = record { start = 21; length = 7 };
      formula = record { start = 30; length = 12 };
    } ∷ []
unfolding steps alternatives_in next_alternative cut_alternative
worked-parts = refl

-- groups, with pieces of white space between them, and repeats
worked-groups : alternatives_in (codes ", aa|bb ,\n, bb,aa")
    ≡ bare 1 2 2 ∷ bare 1 5 2 ∷ bare 2 12 2 ∷ bare 3 15 2 ∷ []
unfolding steps alternatives_in next_alternative cut_alternative
worked-groups = refl

-- none
worked-none : (alternatives_in [] ≡ []) × (alternatives_in (codes " ,, ") ≡ [])
unfolding alternatives_in next_alternative
worked-none = (refl, refl)

worked-behind : cut_behind (bare 1 0 2, lent (codes ",bb")) ≡ (bare 1 0 2, codes ",bb")
worked-behind = refl
