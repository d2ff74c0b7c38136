-- How a put and an end change the bytes that an output holds back.
use Rattle.std.proofs.Common.{◌≡◌, ◌≤◌, ◌+◌, ℕ, List, ◌++◌, length, take, Option, Some, None, Result, Ok, Err, refl}
use Rattle.std.proofs.Common.{sym, ap, subst, ◌∙◌, append_assoc, arith}
use Rattle.std.specs.Prelude.{MatchOption}
use Rattle.std.specs.Io.KnownBytes.{Appends}
use Rattle.std.proofs.KnownBytes.{Appends-trans}
use Rattle.std.proofs.Math.Seq.{take-append-add}
use Rattle.std.proofs.lemmas.List.{length-append, take-append-le}
use Rattle.base_outputs.specs.declared.writing.WriteFault.{WriteFault}
use Rattle.base_outputs.specs.declared.output.Output.{Output}
use Rattle.base_outputs.specs.Writing.{StopsIn, WritesAfter}
use Rattle.base_outputs.specs.Output.{IsPartlyWritten, StoppedIn, Puts, Ends, EndsFlushed}

-- A stop after a written prefix is a stop in the whole text.
stopped_after : (a b d : Option (List ℕ)) (n w : ℕ) (prefix t : List ℕ) → n ≡ length prefix → Appends a b prefix
    → StopsIn b d n t w → StoppedIn a d (prefix ++ t) w
stopped_after a b d n w prefix t e out h = record {
  within = (let p = h.within in let q = h.counted in omega (arith, length-append prefix t, p, q, e));
  front = (let q = h.counted in let same : w ≡ length prefix + h.part = omega (arith, q, e) in
      rw (same, take-append-add prefix t h.part) (Appends-trans a b d prefix (take h.part t) out h.front));
}

-- A fault in a text is a fault in a longer text.
stopped_in_more : {a d : Option (List ℕ)} {w : ℕ} {t : List ℕ} (u : List ℕ) → StoppedIn a d t w
    → StoppedIn a d (t ++ u) w
stopped_in_more {a} {d} {w} {t} u h = record {
  within = (let p = h.within in omega (arith, length-append t u, p));
  front = (let p = h.within in let le : w ≤ length t = omega (arith, p) in rw (take-append-le w t u le) h.front);
}

-- What is known of an output with this fault.
abbrev Known : {W : Type 0} → (W → Option (List ℕ)) → Option (List ℕ) → Output W → List ℕ → Option WriteFault → Type 0
Known c start o text fault =
    MatchOption fault (IsPartlyWritten start (c o.out.now) o.held.items o.sent text)
    (λ f. StoppedIn start (c o.out.now) text f.written)

module _ {W : Type 0} {c : W → Option (List ℕ)} where
  -- Of the held bytes and the text after them, a prefix is written and the rest held.
  pub puts_on : {o q : Output W} {t : List ℕ} (prefix : List ℕ) → o.fault ≡ None → q.fault ≡ None
      → q.out.ghost_name ≡ o.out.ghost_name → o.held.items ++ t ≡ prefix ++ q.held.items
      → (q.sent ≡ o.sent + length prefix) × Appends (c o.out.now) (c q.out.now) prefix → Puts c o q t
  puts_on {o} {q} {t} prefix before after same parts h = record {
    same_writer = same;
    grows = λ start text d.
        let way : Known c start o text None = subst (Known c start o text) before d in
        let all : Known c start q (text ++ t) None = record {
          prefix = way.prefix ++ prefix;
          parts =
              ap (λ (x : List ℕ). x ++ t) way.parts ∙ append_assoc way.prefix o.held.items t
              ∙ ap (λ (x : List ℕ). way.prefix ++ x) parts
              ∙ sym (append_assoc way.prefix prefix q.held.items);
          counted = (let m = way.counted in let n = h.0 in omega (arith, m, n, length-append way.prefix prefix));
          out = Appends-trans start (c o.out.now) (c q.out.now) way.prefix prefix way.out h.1;
        } in
        subst (Known c start q (text ++ t)) (sym after) all;
  }

  -- A fault in the held bytes, or in the text after them.
  pub puts_fault : {o q : Output W} {t : List ℕ} (f : WriteFault) → o.fault ≡ None → q.fault ≡ Some f
      → q.out.ghost_name ≡ o.out.ghost_name
      → StopsIn (c o.out.now) (c q.out.now) o.sent (o.held.items ++ t) f.written → Puts c o q t
  puts_fault {o} {q} {t} f before after same h = record {
    same_writer = same;
    grows = λ start text d.
        let way : Known c start o text None = subst (Known c start o text) before d in
        let grouped : way.prefix ++ (o.held.items ++ t) ≡ text ++ t =
        sym (append_assoc way.prefix o.held.items t) ∙ ap (λ (x : List ℕ). x ++ t) (sym way.parts) in
        let stopped : Known c start q (text ++ t) (Some f) =
        subst (λ (x : List ℕ). StoppedIn start (c q.out.now) x f.written) grouped
        (stopped_after start (c o.out.now) (c q.out.now) o.sent f.written way.prefix (o.held.items ++ t)
        way.counted way.out h)
        in
        subst (Known c start q (text ++ t)) (sym after) stopped;
  }

  -- After a fault nothing more is written.
  pub puts_after_fault : {o : Output W} {t : List ℕ} (f : WriteFault) → o.fault ≡ Some f → Puts c o o t
  puts_after_fault {o} {t} f e = record {
    same_writer = refl;
    grows = λ start text d.
        let stopped : Known c start o text (Some f) = subst (Known c start o text) e d in
        let more : Known c start o (text ++ t) (Some f) = stopped_in_more t stopped in
        subst (Known c start o (text ++ t)) (sym e) more;
  }

module _ {W : Type 0} (c : W → Option (List ℕ)) (o : Output W) where
  -- The held bytes are written at the end.
  pub ends_sent : (now : Option (List ℕ)) (answer : Result ℕ WriteFault) → o.fault ≡ None
      → WritesAfter (c o.out.now) now o.sent o.held.items answer → Ends c o now answer
  ends_sent now (Ok total) e h start text d =
      let way : Known c start o text None = subst (Known c start o text) e d in (
        subst (λ (x : List ℕ). Appends start now x) (sym way.parts)
            (Appends-trans start (c o.out.now) now way.prefix o.held.items way.out h.1),
        (let p =
            ap length way.parts in let m =
            way.counted in let n = h.0 in omega (arith, p, m, n, length-append way.prefix o.held.items)),
      )
  ends_sent now (Err f) e h start text d =
      let way : Known c start o text None = subst (Known c start o text) e d in
      let stopped =
      stopped_after start (c o.out.now) now o.sent f.written way.prefix o.held.items way.counted way.out h in
      let same : StoppedIn start now text f.written =
      subst (λ (x : List ℕ). StoppedIn start now x f.written) (sym way.parts) stopped in
      ((same.within, same.front), tt)

  -- A kept fault is returned at the end.
  pub ends_fault : (f : WriteFault) → o.fault ≡ Some f → Ends c o (c o.out.now) (Err f)
  ends_fault f e start text d =
      let stopped : Known c start o text (Some f) = subst (Known c start o text) e d in
      ((stopped.within, stopped.front), tt)

  -- A kept fault is returned before the flush.
  pub ends_unflushed : (now : Option (List ℕ)) (f : WriteFault) → Ends c o now (Err f) → EndsFlushed c o now (Err f)
  ends_unflushed now f e start text d = let s = e start text d in (((let p = s.0.0 in omega (arith, p)), s.0.1), tt)
