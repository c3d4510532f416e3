use Rattle.std.proofs.Common.{◌≡◌, ◌∙◌, ◌<◌, ◌≤◌, ◌++◌, [], Some, ap, append-nil, refl, subst, sym}
use Rattle.deb_base.specs.Bodies.{file_limit}
use Rattle.deb_control.specs.CheckedStates.{checked_state, doc_read}
use Rattle.std.proofs.lemmas.Result.{err_from_is_err_and}
use Rattle.deb_control.proofs.CheckedSoFar.{refused_then}
use Rattle.debctl_ffi.specs.Feeds.{Reading, ReadsOn, RefusesOn}
use Rattle.debctl_ffi.proofs.AlikeTexts.{refuses-alike}
use Rattle.debctl_ffi.specs.KeptTexts.{kept_text}
use Rattle.debctl_ffi.proofs.Readings.{empty-of, keeps-piece, long-refused, other_of, reads-piece, starts-reading}
use Rattle.debctl_ffi.proofs.reader.Reader.take_piece.Goals as goal

pub returns-then-fed-gt-FILE_LIMIT-clause-ok : goal.returns-then-fed-gt-FILE_LIMIT-clause-ok
unfolding file_limit
returns-then-fed-gt-FILE_LIMIT-clause-ok c = λ doc fed given is shows.
    long-refused c.take_last.result doc fed c.args.text.now given c.args.self.now.fed c.take_last.new.self
    (subst (λ n. file_limit < n) c.saturating_add-fed.ensures c.if-fed-gt-FILE_LIMIT.true) is.fed (c.take_last.ensures.ok doc fed given is shows)

pub returns-then-is_empty-clause-ok : goal.returns-then-is_empty-clause-ok
unfolding file_limit
returns-then-is_empty-clause-ok c = λ doc fed given is shows.
    let none : c.args.text.now ≡ [] = empty-of c.args.text.now (sym c.is_empty.ensures ∙ c.if-is_empty.true) in
    keeps-piece doc fed c.args.text.now given c.args.self.now _ is shows
    (subst (λ n. n ≤ file_limit) c.saturating_add-fed.ensures c.if-fed-gt-FILE_LIMIT.false) c.saturating_add-fed.ensures refl refl refl refl
    (sym (append-nil (kept_text c.args.self.now.kept)) ∙ ap (λ piece. kept_text c.args.self.now.kept ++ piece) (sym none))

pub returns-then-runs-eq0-clause-ok : goal.returns-then-runs-eq0-clause-ok
unfolding file_limit
returns-then-runs-eq0-clause-ok c = λ doc fed given is shows.
    keeps-piece doc fed c.args.text.now given c.args.self.now _ is shows
    (subst (λ n. n ≤ file_limit) c.saturating_add-fed.ensures c.if-fed-gt-FILE_LIMIT.false) c.saturating_add-fed.ensures refl refl refl refl
    c.in_ok-push.ensures

pub returns-in_err-read_some-clause-refused : goal.returns-in_err-read_some-clause-refused
returns-in_err-read_some-clause-refused c = λ doc fed given is shows.
    let p = err_from_is_err_and c.from_residual-in_err-read_some.result c.from_residual-in_err-read_some.ensures.1 in
    let self = c.args.self.now in
    let piece = c.args.text.now in
    let other = other_of doc fed given self is in
    let left = c.new-source.ensures.left ∙ ap (λ kept. Some (kept ++ piece)) c.held.ensures in
    let start = subst (λ l. Reading (doc_read self.checked) (other ++ piece) given [] (checked_state self.checked) l self.tables self.count) (sym left) (starts-reading doc fed piece given self is shows) in
    rw (p.1, p.2) (refused_then (Unit {0}) (λ refusal. RefusesOn (doc_read self.checked) (other ++ piece) given refusal c.read_some.new.tables)
    (λ refusal. RefusesOn doc (fed ++ piece) given refusal c.read_some.new.tables) c.in_err-read_some.field-0.0
    (λ refusal refuses. refuses-alike doc fed other is.alike piece given refusal c.read_some.new.tables
    (subst (λ d. RefusesOn d (other ++ piece) given refusal c.read_some.new.tables) is.is_doc refuses))
    (c.in_err-read_some.ensures.refused (other ++ piece) given start))

pub returns-clause-ok : goal.returns-clause-ok
unfolding file_limit
returns-clause-ok c = λ doc fed given is shows.
    let self = c.args.self.now in
    let piece = c.args.text.now in
    let other = other_of doc fed given self is in
    let left = c.new-source.ensures.left ∙ ap (λ kept. Some (kept ++ piece)) c.held.ensures in
    let start = subst (λ l. Reading (doc_read self.checked) (other ++ piece) given [] (checked_state self.checked) l self.tables self.count) (sym left) (starts-reading doc fed piece given self is shows) in
    let reads = subst (λ l. ReadsOn (doc_read self.checked) (other ++ piece) given (checked_state c.read_some.new.checked) l c.read_some.new.tables c.read_some.new.count) c.in_ok-rest.ensures.left (c.in_ok-read_some.ensures.reads (other ++ piece) given start) in
    reads-piece doc fed piece c.in_ok-rest.rest.items given self _ is
    (subst (λ n. n ≤ file_limit) c.saturating_add-fed.ensures c.if-fed-gt-FILE_LIMIT.false) c.saturating_add-fed.ensures refl refl
    (c.in_ok-read_some.ensures.doc ∙ is.is_doc) c.in_ok-rest.ensures.some c.new.ensures
    (subst (λ d. ReadsOn d (other ++ piece) given (checked_state c.read_some.new.checked) (Some c.in_ok-rest.rest.items) c.read_some.new.tables c.read_some.new.count) is.is_doc reads)
