use Rattle.std.proofs.Common.{◌≡◌, ◌++◌, ◌∷◌, [], true, false, ap, sym, ◌∙◌}
use Rattle.deb_index.specs.Members.{doc_of, has_seen}
use Rattle.deb_index.specs.Stores.{lines_in, spellings_in}
use Rattle.deb_index.specs.VersionSpellings.{version_body}
use Rattle.deb_index.proofs.Indexed.{member_kept, other_kept}
use Rattle.deb_index.proofs.Installed.{member_visits}
use Rattle.deb_index.proofs.ListedValues.{lists-kept, visits-texts}
use Rattle.deb_index.proofs.index.keep_next.Goals as goal

pub returns-then-not-has-clause-store : goal.returns-then-not-has-clause-store
returns-then-not-has-clause-store g c = λ first given seen visits same keeps.
    let members = c.args.members in
    let has : has_seen members seen ≡ false = ap (has_seen members) (sym same) ∙ sym c.has.ensures ∙ c.if-not-has.true in
    other_kept members given seen visits.passes visits.fields first c.args.store.now keeps has

pub returns-then-not-has-clause-keeps : goal.returns-then-not-has-clause-keeps
returns-then-not-has-clause-keeps g c = λ given seen visits same kept.
    let members = c.args.members in
    let has : has_seen members seen ≡ false = ap (has_seen members) (sym same) ∙ sym c.has.ensures ∙ c.if-not-has.true in
    c.in_ok-pass_over.ensures members given seen kept (visits-texts (doc_of members) _ seen visits) same has

pub returns-clause-store : goal.returns-clause-store
returns-clause-store g c = λ first given seen visits same keeps.
    let members = c.args.members in
    let old = c.args.store.now in
    let has : has_seen members seen ≡ true = ap (has_seen members) (sym same) ∙ sym c.has.ensures ∙ c.if-not-has.false in
    let listed = lists-kept _ seen (member_visits members _ seen visits has) in
    let version = c.version_body.ensures ∙ ap (λ s. version_body s.fields) same in
    let one = c.in_ok-push.ensures.kept listed.listed listed.keeps (rw version listed.spells) keeps.kept in
    let spelling = one.spellings ∙ ap (λ t. spellings_in old ++ t ∷ []) version in
    let line = c.in_ok-push.ensures.line ∙ ap (λ n. lines_in old ++ n ∷ []) (c.first_line.ensures ∙ ap (λ s. s.first) same) in
    member_kept members given seen visits.passes visits.fields first old _ listed.listed keeps has listed.lists one.kept one.listed line spelling

pub returns-clause-keeps : goal.returns-clause-keeps
returns-clause-keeps g c = λ given seen visits same kept.
    let members = c.args.members in
    let has : has_seen members seen ≡ true = ap (has_seen members) (sym same) ∙ sym c.has.ensures ∙ c.if-not-has.false in
    c.in_ok-keep.ensures members given seen kept (visits-texts (doc_of members) _ seen visits) same has
