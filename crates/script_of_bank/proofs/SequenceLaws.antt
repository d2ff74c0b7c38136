-- Edits in order: of two lists, and of each member of a list.
use Rattle.std.proofs.Common.{◌≡◌, ◌++◌, ℕ, suc, List, [], ◌∷◌, length, refl, sym, subst, ◌∙◌, ap, arith}
use Rattle.std.proofs.lemmas.List.{append-nil, append_assoc, length_push}
use Rattle.bank_parts.specs.declared.parts.Parts.{Parts}
use Rattle.edit_forms.specs.declared.edit.Edit.{Edit}
use Rattle.edit_refusals.specs.Edits.{raw}
use Rattle.bank_edits.specs.EditChanges.{inverse}
use Rattle.bank_edits.specs.Runs.{AllAccepted, after_all, undo_list}
use Rattle.script_of_bank.specs.BankEdits.{in_turn}
use Rattle.script_of_bank.specs.BankRemoval.{in_reverse}

-- ---- two lists

pub after-append : (b : Parts) (es fs : List Edit) → after_all b (es ++ fs) ≡ after_all (after_all b es) fs
after-append b [] fs = refl
after-append b (e ∷ es) fs = after-append (raw b e) es fs

pub is_accepted-append : (b : Parts) (es fs : List Edit) → AllAccepted b es → AllAccepted (after_all b es) fs
    → AllAccepted b (es ++ fs)
is_accepted-append b [] fs h k = k
is_accepted-append b (e ∷ es) fs h k = (h.0, is_accepted-append (raw b e) es fs h.1 k)

-- where the first edits lead to a known bank
pub after-then : (b c d : Parts) (es fs : List Edit) → after_all b es ≡ c → after_all c fs ≡ d
    → after_all b (es ++ fs) ≡ d
after-then b c d es fs to on = after-append b es fs ∙ (ap (λ (p : Parts). after_all p fs) to ∙ on)

pub is_accepted-then : (b c : Parts) (es fs : List Edit) → after_all b es ≡ c → AllAccepted b es → AllAccepted c fs
    → AllAccepted b (es ++ fs)
is_accepted-then b c es fs to h k = is_accepted-append b es fs h (subst (λ (p : Parts). AllAccepted p fs) (sym to) k)

-- ---- the undo list

undo-append : (b : Parts) (es fs : List Edit) → undo_list b (es ++ fs) ≡ undo_list (after_all b es) fs ++ undo_list b es
undo-append b [] fs = sym (append-nil (undo_list b fs))
undo-append b (e ∷ es) fs =
    ap (λ (us : List Edit). us ++ inverse b e ∷ []) (undo-append (raw b e) es fs)
    ∙ append_assoc (undo_list (after_all (raw b e) es) fs) (undo_list (raw b e) es) (inverse b e ∷ [])

pub undo-then : (b c : Parts) (es fs us : List Edit) → after_all b es ≡ c → undo_list b es ≡ us
    → undo_list b (es ++ fs) ≡ undo_list c fs ++ us
undo-then b c es fs us to u = undo-append b es fs ∙ (λ i. undo_list (to i) fs ++ u i)

-- the same, before other edits
pub undo-past : (b c : Parts) (es fs us others whole : List Edit) → after_all b es ≡ c → undo_list b es ≡ us
    → undo_list c fs ++ (us ++ others) ≡ whole → undo_list b (es ++ fs) ++ others ≡ whole
undo-past b c es fs us others whole to u on =
    ap (λ (l : List Edit). l ++ others) (undo-then b c es fs us to u) ∙ (append_assoc (undo_list c fs) us others ∙ on)

-- ---- the members of a list in order: the bank is a function of the members that are done and the rest

module _ {X : Type 0} (state : List X → List X → Parts) (edits : ℕ → X → List Edit)
    (step : (done : List X) (x : X) (rest : List X)
    → after_all (state done (x ∷ rest)) (edits (length done) x) ≡ state (done ++ x ∷ []) rest)
  where
    next : (done : List X) (x : X) → length (done ++ x ∷ []) ≡ suc (length done)
    next done x = let e = length_push done x in omega (arith, e)

    pub after_turns : (done xs : List X)
        → after_all (state done xs) (in_turn edits (length done) xs) ≡ state (done ++ xs) []
    after_turns done [] = ap (λ (l : List X). state l []) (sym (append-nil done))
    after_turns done (x ∷ xs) =
        after-then (state done (x ∷ xs)) (state (done ++ x ∷ []) xs) (state (done ++ x ∷ xs) [])
        (edits (length done) x) (in_turn edits (suc (length done)) xs)
        (step done x xs)
        (ap (λ (n : ℕ). after_all (state (done ++ x ∷ []) xs) (in_turn edits n xs)) (sym (next done x))
        ∙ (after_turns (done ++ x ∷ []) xs ∙ ap (λ (l : List X). state l []) (append_assoc done (x ∷ []) xs)))

    module _ (whole : List X)
        (each_writes : (done : List X) (x : X) (rest : List X) → done ++ x ∷ rest ≡ whole
        → AllAccepted (state done (x ∷ rest)) (edits (length done) x))
      where
        pub accepted_turns : (done xs : List X) → done ++ xs ≡ whole
            → AllAccepted (state done xs) (in_turn edits (length done) xs)
        accepted_turns done [] e = tt
        accepted_turns done (x ∷ xs) e =
            is_accepted-then (state done (x ∷ xs)) (state (done ++ x ∷ []) xs) (edits (length done) x)
            (in_turn edits (suc (length done)) xs)
            (step done x xs)
            (each_writes done x xs e)
            (subst (λ (n : ℕ). AllAccepted (state (done ++ x ∷ []) xs) (in_turn edits n xs)) (next done x)
            (accepted_turns (done ++ x ∷ []) xs (append_assoc done (x ∷ []) xs ∙ e)))

    module _ (back : ℕ → X → List Edit)
        (undone : (done : List X) (x : X) (rest : List X)
        → undo_list (state done (x ∷ rest)) (edits (length done) x) ≡ back (length done) x)
      where
        pub undo_turns : (done xs : List X)
            → undo_list (state done xs) (in_turn edits (length done) xs) ≡ in_reverse back (length done) xs
        undo_turns done [] = refl
        undo_turns done (x ∷ xs) =
            undo-then (state done (x ∷ xs)) (state (done ++ x ∷ []) xs) (edits (length done) x)
            (in_turn edits (suc (length done)) xs) (back (length done) x)
            (step done x xs) (undone done x xs)
            ∙ ap (λ (us : List Edit). us ++ back (length done) x)
            (subst (λ (n : ℕ). undo_list (state (done ++ x ∷ []) xs) (in_turn edits n xs) ≡ in_reverse back n xs)
            (next done x) (undo_turns (done ++ x ∷ []) xs))
