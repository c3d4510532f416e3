-- A group that is written chunk by chunk, from its canonical text.
use Rattle.std.proofs.Common.{◌≡◌, ◌≢◌, ℕ, List, [], ◌∷◌, ◌++◌, map, length, ◌<◌, refl, sym, ap, ◌∙◌, append_assoc, append-nil, arith, codes}
use Rattle.std.specs.List.{AllByRecursion, flat_map}
use Rattle.std.proofs.lemmas.Grind.{flat_map-append}
use Rattle.std.proofs.lemmas.List.{length-append}
use Rattle.json.specs.Token.{Token}
use Rattle.deb_base.proofs.AllElements.{All-append}
use Rattle.deb_relation.specs.Meaning.{Group}
use Rattle.deb_relation.specs.Texts.{alternative_text, group_text, separated}
use Rattle.deb_relation.proofs.Regular.{IsRegular, IsRegularGroup}
use Rattle.deb_version.specs.PartsLemmas.{cons_not_nil}
use Rattle.deb_select.specs.JsonTokens.{alternative_tokens}

-- a regular group with this text, and what was written of it
abbrev pub Written : List ℕ → List Token → List Token → Type 0
Written text old new = (group : Group) × IsRegularGroup group × (group_text group ≡ text) × (new ≡ old ++ flat_map alternative_tokens group)

-- The alternatives that were written, and the text that is left. With those of which it is the text they are the group.
pub record ChunksSoFar (text rest : List ℕ) (old new : List Token) : Type 0 where
  pub done : Group
  pub regular : AllByRecursion IsRegular done
  pub spelt : (chunk : Group) → chunk ≢ [] → group_text chunk ≡ rest → group_text (done ++ chunk) ≡ text
  pub written : new ≡ old ++ flat_map alternative_tokens done

pub chunks_none : (text : List ℕ) (old : List Token) → ChunksSoFar text text old old
chunks_none text old = record {
  done = [];
  regular = tt;
  spelt = λ chunk some is. is;
  written = sym (append-nil old);
}

not-nil : (chunk more : Group) → chunk ≢ [] → chunk ++ more ≢ []
not-nil [] more some = absurd (some refl)
not-nil (a ∷ chunk) more some = cons_not_nil a (chunk ++ more)

more-not-nil : (done chunk : Group) → chunk ≢ [] → done ++ chunk ≢ []
more-not-nil [] chunk some = some
more-not-nil (a ∷ done) chunk some = cons_not_nil a (done ++ chunk)

separated-more : (chunk more : Group) → more ≢ [] → separated (codes " | ") (map alternative_text (chunk ++ more)) ≡ separated (codes " | ") (map alternative_text chunk) ++ (codes " | " ++ group_text more)
unfolding group_text
separated-more [] [] some = absurd (some refl)
separated-more [] (a ∷ more) some = refl
separated-more (a ∷ chunk) more some =
    ap (λ t. codes " | " ++ (alternative_text a ++ t)) (separated-more chunk more some)
    ∙ ap (λ t. codes " | " ++ t) (sym (append_assoc (alternative_text a) (separated (codes " | ") (map alternative_text chunk)) (codes " | " ++ group_text more)))

text-more : (chunk more : Group) → chunk ≢ [] → more ≢ [] → group_text (chunk ++ more) ≡ group_text chunk ++ (codes " | " ++ group_text more)
unfolding group_text
text-more [] more none some = absurd (none refl)
text-more (a ∷ chunk) more none some =
    ap (λ t. alternative_text a ++ t) (separated-more chunk more some)
    ∙ sym (append_assoc (alternative_text a) (separated (codes " | ") (map alternative_text chunk)) (codes " | " ++ group_text more))

tokens-more : (done chunk : Group) (old mid new : List Token) → mid ≡ old ++ flat_map alternative_tokens done → new ≡ mid ++ flat_map alternative_tokens chunk → new ≡ old ++ flat_map alternative_tokens (done ++ chunk)
tokens-more done chunk old mid new before is =
    is ∙ ap (λ l. l ++ flat_map alternative_tokens chunk) before ∙ append_assoc old (flat_map alternative_tokens done) (flat_map alternative_tokens chunk)
    ∙ ap (λ l. old ++ l) (sym (flat_map-append alternative_tokens done chunk))

-- one chunk more
pub chunks_more : (text rest cut behind : List ℕ) (old mid new : List Token) → ChunksSoFar text rest old mid → rest ≡ cut ++ (codes " | " ++ behind) → Written cut mid new → ChunksSoFar text behind old new
chunks_more text rest cut behind old mid new so_far is put =
    let chunk = put.0 in
    record {
      done = so_far.done ++ chunk;
      regular = All-append IsRegular so_far.done chunk so_far.regular put.1.each;
      spelt = λ more some spelt.
          ap group_text (append_assoc so_far.done chunk more)
          ∙ so_far.spelt (chunk ++ more) (not-nil chunk more put.1.some)
          (text-more chunk more put.1.some some ∙ ap (λ t. t ++ (codes " | " ++ group_text more)) put.2 ∙ ap (λ t. cut ++ (codes " | " ++ t)) spelt ∙ sym is);
      written = tokens-more so_far.done chunk old mid new so_far.written put.3;
    }

-- the last chunk
pub chunks_all : (text rest : List ℕ) (old mid new : List Token) → ChunksSoFar text rest old mid → Written rest mid new → Written text old new
chunks_all text rest old mid new so_far put = (
  so_far.done ++ put.0,
  record { some = more-not-nil so_far.done put.0 put.1.some; each = All-append IsRegular so_far.done put.0 so_far.regular put.1.each },
  so_far.spelt put.0 put.1.some put.2,
  tokens-more so_far.done put.0 old mid new so_far.written put.3,
)

-- what follows a chunk is shorter
pub chunk_shorter : (rest cut behind : List ℕ) → rest ≡ cut ++ (codes " | " ++ behind) → length behind < length rest
chunk_shorter rest cut behind is = omega (arith, ap length is, length-append cut (codes " | " ++ behind))
