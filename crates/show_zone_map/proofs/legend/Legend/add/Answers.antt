use Rattle.std.proofs.Common.{◌≡◌, ◌<◌, inl, inr, ◌∷◌, ◌++◌, [], ℕ, List, false, true, length, sym, ap, ◌∙◌, arith}
use Rattle.std.specs.Prelude.{◌==◌, ◌||◌}
use Rattle.std.specs.List.{list_any}
use Rattle.std.proofs.lemmas.Bool.{cases_lt, eqb-true, eqb-false}
use Rattle.show_zone_map.proofs.LegendLaws.{full_stays, known_is_no_more, new_is_last, known_and_one}
use Rattle.show_zone_map.proofs.legend.Legend.add.Goals as goal
use Rattle.show_zone_map.proofs.legend.Legend.add.Goals.{then-contains-via-then-contains, then-contains-via-else-contains+then-is_full}

pub returns-then-contains : goal.returns-then-contains
returns-then-contains c =
    let ss = c.args.self.now in
    let s = c.args.sample in
    let items = c.self.inside.samples.items in
    let named = sym (c.self.invariant s c.ranges.sample.fits) ∙ sym c.contains.ensures in
    elim c.then-contains.branch [
      | then-contains-via-then-contains w ↦
          let known : list_any (λ t. s == t) ss ≡ true =
          ap (list_any (λ t. s == t)) (sym c.self.view_is) ∙ named ∙ w.if-contains.true in
          sym (known_is_no_more ss s known c.requires)
      | then-contains-via-else-contains+then-is_full w ↦
          let full : length ss ≡ 1024 =
          ap (λ (xs : List ℕ). length xs) (sym c.self.view_is)
          ∙ eqb-true (length items) 1024 (sym w.is_full.ensures.value ∙ w.if-is_full.true) in
          sym (full_stays ss s (s ∷ []) full)
    ]

pub returns : goal.returns
returns c =
    let ss = c.args.self.now in
    let s = c.args.sample in
    let items = c.self.inside.samples.items in
    let new : list_any (λ t. s == t) ss ≡ false =
    ap (list_any (λ t. s == t)) (sym c.self.view_is) ∙ sym (c.self.invariant s c.ranges.sample.fits)
    ∙ sym c.contains.ensures ∙ c.if-contains.false in
    let open_end = eqb-false (length items) 1024 (sym c.is_full.ensures.value ∙ c.if-is_full.false) in
    let as_long : length items ≡ length ss = ap (λ (xs : List ℕ). length xs) c.self.view_is in
    let within = c.requires in
    let room : length ss < 1024 = elim (cases_lt (length ss) 1024) [
      | inl lt ↦ lt
      | inr ge ↦ absurd (open_end (omega (arith, ge, within, as_long)))
    ] in
    c.push.ensures.items ∙ ap (λ (xs : List ℕ). xs ++ s ∷ []) c.self.view_is ∙ sym (new_is_last ss s new room)

pub invariant_of-self : goal.invariant_of-self
invariant_of-self c s small =
    c.insert.ensures s small
    ∙ ap (λ b. s == c.args.sample || b) (c.self.invariant s small)
    ∙ sym (known_and_one c.self.inside.samples.items c.args.sample s)
    ∙ ap (list_any (λ t. s == t)) (sym c.push.ensures.items)
