-- Points in several slices.
use Rattle.std.proofs.Common.{◌≡◌, ℕ, ◌+◌, ◌<◌, List, [], ◌∷◌, ◌++◌, length, get_or, take, drop, refl, ap, sym, ◌∙◌}
use Rattle.std.proofs.Common.{append-nil, append_assoc, take-append-drop}
use Rattle.std.specs.Prelude.{All}
use Rattle.std.specs.List.{flat_map}
use Rattle.std.specs.Borrow.{Bor}
use Rattle.std.proofs.lemmas.List.{take_more}
use Rattle.std.proofs.lemmas.List.Concat.{flat_map-append}
use Rattle.std.proofs.lemmas.List.Elements.{All-head, All-tail}
use Rattle.sample_view.specs.Words.{words, word_bytes, AreWords}
use Rattle.sample_view.specs.Pieces.{joined, joined_bytes, IsPiece}
use Rattle.sample_view.proofs.WordLaws.{bytes_of_words, AreWords-words, AreWords-append}

-- One more slice at the end.
pub joined-push : (ps : List (Bor (List ℕ))) (p : Bor (List ℕ)) → joined (ps ++ p ∷ []) ≡ joined ps ++ words p.now
joined-push ps p = flat_map-append (λ q. words q.now) ps (p ∷ []) ∙ ap (λ t. joined ps ++ t) (append-nil (words p.now))

-- The slices up to and including the next one.
pub joined-more : (ps : List (Bor (List ℕ))) (i : ℕ) (d : Bor (List ℕ)) → i < length ps
    → joined (take (i + 1) ps) ≡ joined (take i ps) ++ words (get_or ps i d).now
joined-more ps i d h = ap joined (take_more ps i d h) ∙ joined-push (take i ps) (get_or ps i d)

-- The slices before one, that one, and those after it.
pub joined-split : (ps : List (Bor (List ℕ))) (i : ℕ) (d : Bor (List ℕ)) → i < length ps
    → joined ps ≡ joined (take i ps) ++ (words (get_or ps i d).now ++ joined (drop (i + 1) ps))
joined-split ps i d h =
    ap joined (sym (take-append-drop (i + 1) ps))
    ∙ flat_map-append (λ q. words q.now) (take (i + 1) ps) (drop (i + 1) ps)
    ∙ ap (λ t. t ++ joined (drop (i + 1) ps)) (joined-more ps i d h)
    ∙ append_assoc (joined (take i ps)) (words (get_or ps i d).now) (joined (drop (i + 1) ps))

-- The points of slices fit into 16 bits.
pub AreWords-joined : (ps : List (Bor (List ℕ))) → All IsPiece ps → AreWords (joined ps)
AreWords-joined [] a = tt
AreWords-joined (p ∷ ps) a =
    let first = All-head IsPiece p ps a in
    AreWords-append (words p.now) (joined ps) (AreWords-words p.now first.bytes)
    (AreWords-joined ps (All-tail IsPiece p ps a))

-- The bytes of slices are the bytes of their points.
pub joined_bytes_is : (ps : List (Bor (List ℕ))) → All IsPiece ps → joined_bytes ps ≡ flat_map word_bytes (joined ps)
joined_bytes_is [] a = refl
joined_bytes_is (p ∷ ps) a =
    let first = All-head IsPiece p ps a in
    let rest = joined_bytes_is ps (All-tail IsPiece p ps a) in
    sym (flat_map-append word_bytes (words p.now) (joined ps)
    ∙ ap (λ t. t ++ flat_map word_bytes (joined ps)) (bytes_of_words p.now first.bytes first.even)
    ∙ ap (λ t. p.now ++ t) (sym rest))
