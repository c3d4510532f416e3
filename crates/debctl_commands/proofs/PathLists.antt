-- The texts of the paths of an audit: those before one, that one, and those behind it.
use Rattle.std.proofs.Common.{◌≡◌, ◌+◌, ℕ, ◌<◌, List, [], ◌∷◌, ◌++◌, Bor, String, Global, string_bytes, map, take, drop, length, get_or, slice_index_or, sym, ap, ◌∙◌, arith, take-append-drop}
use Rattle.std.proofs.lemmas.List.{length-map, length-take-le, map-append, take_more}

abbrev pub texts : List (Bor (List ℕ)) → List (List ℕ)
texts paths = map (λ path. path.now) paths

abbrev pub none : Bor (List ℕ)
none = record { ref_ptr = (0, 0); now = [] }

-- the paths so far, and the next one
pub texts_more : (paths : List (Bor (List ℕ))) (i : ℕ) → i < length paths → texts (take (i + 1) paths) ≡ texts (take i paths) ++ (slice_index_or paths i none).now ∷ []
texts_more paths i below = ap texts (take_more paths i none below) ∙ map-append (λ path. path.now) (take i paths) (slice_index_or paths i none ∷ [])

-- and those behind it
pub texts_split : (paths : List (Bor (List ℕ))) (i : ℕ) → i < length paths → texts paths ≡ (texts (take i paths) ++ (slice_index_or paths i none).now ∷ []) ++ texts (drop (i + 1) paths)
texts_split paths i below =
    ap texts (sym (take-append-drop (i + 1) paths)) ∙ map-append (λ path. path.now) (take (i + 1) paths) (drop (i + 1) paths)
    ∙ ap (λ l. l ++ texts (drop (i + 1) paths)) (texts_more paths i below)

-- The same of paths that are strings.
pub bytes_more : (paths : List (String Global)) (i : ℕ) (path : String Global) → i < length paths → path ≡ get_or paths i path → map string_bytes (take (i + 1) paths) ≡ map string_bytes (take i paths) ++ string_bytes path ∷ []
bytes_more paths i path below at =
    ap (map string_bytes) (take_more paths i path below) ∙ map-append string_bytes (take i paths) (get_or paths i path ∷ []) ∙ ap (λ p. map string_bytes (take i paths) ++ string_bytes p ∷ []) (sym at)

pub bytes_split : (paths : List (String Global)) (i : ℕ) (path : String Global) → i < length paths → path ≡ get_or paths i path → map string_bytes paths ≡ (map string_bytes (take i paths) ++ string_bytes path ∷ []) ++ map string_bytes (drop (i + 1) paths)
bytes_split paths i path below at =
    ap (map string_bytes) (sym (take-append-drop (i + 1) paths)) ∙ map-append string_bytes (take (i + 1) paths) (drop (i + 1) paths)
    ∙ ap (λ l. l ++ map string_bytes (drop (i + 1) paths)) (bytes_more paths i path below at)

-- how many there are before one
pub bytes_before : (paths : List (String Global)) (i : ℕ) → i < length paths → length (map string_bytes (take i paths)) ≡ i
bytes_before paths i below = length-map (take i paths) string_bytes ∙ length-take-le i paths (omega (arith, below))
