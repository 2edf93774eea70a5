-- After every list of calls, the frames handed out and those of the bytes that are left are together the frames of the
-- file: one induction over the calls.
use Rattle.std.proofs.Common.{◌≡◌, ℕ, suc, ◌+◌, List, [], ◌∷◌, ◌++◌, length, sym, refl, ap, ◌∙◌, subst, append_assoc, append-nil, arith}
use Rattle.std.proofs.lemmas.List.{length-append}
use Rattle.pass.specs.Layout.{Parts, encoded, Behind, EndToEnd}
use Rattle.pass.specs.Walking.{Point, start, Handed, Told, none, handed, refused, Hands, Refuses, Steps}
use Rattle.pass.specs.Runs.{collected, Walks, begun, called, size, numbered, Reaches, Whole}
use Rattle.pass.proofs.RoundTrip.{one_frame, shorter}

-- no bytes, no frame
nothing_behind : (rest : List ℕ) (p : Parts) → Behind [] rest p → ⊥
nothing_behind rest p h = omega (arith, shorter [] rest p h)

-- frames end to end begin with the frame that stands behind some rest
first : (bs rest : List ℕ) (p : Parts) (ps : List Parts)
    → Behind bs rest p
    → EndToEnd bs ps
    → (more : List Parts) × EndToEnd rest more × (ps ≡ p ∷ more)
first bs rest p [] b e = absurd (nothing_behind rest p (subst (λ xs. Behind xs rest p) e b))
first bs rest p (q ∷ ps) b e =
    let same = one_frame bs e.0 rest q p e.1 b in
    (ps, subst (λ xs. EndToEnd xs ps) same.0 e.2, ap (λ r. r ∷ ps) same.1)

-- a file is frames end to end in one way at most
one_list : (file : List ℕ) (ps qs : List Parts) → EndToEnd file ps → EndToEnd file qs → qs ≡ ps
one_list file [] [] e f = refl
one_list file [] (q ∷ qs) e f = absurd (nothing_behind f.0 q (subst (λ xs. Behind xs f.0 q) e f.1))
one_list file (p ∷ ps) qs e f =
    let g = first file e.0 p qs e.1 f in g.2 ∙ ap (λ rs. p ∷ rs) (one_list e.0 ps g.0 e.2 g.1)

pub size_of : (file : List ℕ) (ps : List Parts) → EndToEnd file ps → length file ≡ size ps
size_of file [] e = ap length e
size_of file (p ∷ ps) e =
    omega (arith, ap length e.1.joined ∙ length-append e.0 (encoded p), size_of e.0 ps e.2)

-- what calls that handed out fs, and left the walk at w, say of the file
record Sofar (file : List ℕ) (fs : List Handed) (w : Point) : Type 0 where
  sound : (ps : List Parts) → EndToEnd w.rest ps → (qs : List Parts) × EndToEnd file qs × (numbered 0 qs ≡ fs ++ numbered w.number ps)
  complete : (qs : List Parts) → EndToEnd file qs → (ps : List Parts) × EndToEnd w.rest ps × (numbered 0 qs ≡ fs ++ numbered w.number ps)

-- a frame handed out is the first of those that were left
next_numbered : (fs : List Handed) (w v : Point) (f : Handed) (ps : List Parts)
    → Hands w f v
    → EndToEnd v.rest ps
    → fs ++ numbered w.number (f.parts ∷ ps) ≡ (fs ++ (f ∷ [])) ++ numbered v.number ps
next_numbered fs w v f ps h e =
    let place : size ps ≡ f.place = sym (h.place ∙ size_of v.rest ps e) in
    let same : ◌≡◌ {A = Handed} (record { parts = f.parts; number = w.number; place = size ps; len = length (encoded f.parts) })
    (record { parts = f.parts; number = f.number; place = f.place; len = f.len }) =
    cc in
    ap (λ x. fs ++ (x ∷ numbered (w.number + 1) ps)) same
    ∙ ap (λ n. fs ++ (f ∷ numbered n ps)) (sym h.moved)
    ∙ sym (append_assoc fs (f ∷ []) (numbered v.number ps))

after : (file : List ℕ) (fs : List Handed) (w v : Point) (r : Told) → Sofar file fs w → Steps w r v → Sofar file (collected fs r) v
after file fs w v none old s = subst (Sofar file fs) (sym s.1) old
after file fs w v (refused _ _ _) old s = subst (Sofar file fs) (sym s.same) old
after file fs w v (handed f) old s =
    record {
      sound = λ ps e.
          let q = old.sound (f.parts ∷ ps) (v.rest, s.behind, e) in
          (q.0, q.1, q.2 ∙ next_numbered fs w v f ps s e);
      complete = λ qs e.
          let p = old.complete qs e in
          let g = first w.rest v.rest f.parts p.0 s.behind p.1 in
          (g.0, g.1, p.2 ∙ ap (λ l. fs ++ numbered w.number l) g.2 ∙ next_numbered fs w v f g.0 s g.1);
    }

sofar : (file : List ℕ) (fs : List Handed) (w : Point) → Walks file fs w → Sofar file fs w
sofar file fs w begun = record { sound = λ ps e. (ps, e, refl); complete = λ qs e. (qs, e, refl) }
sofar file fs w (called {fs = gs} {w = u} run r s) = after file gs u w r (sofar file gs u run) s

-- where the walk refuses, the rest is no frames end to end
no_list : (w : Point) (fault trailer number : ℕ) (v : Point) (ps : List Parts) → Refuses w fault trailer number v → EndToEnd w.rest ps → ⊥
no_list w _ _ _ v [] s e = omega (arith, s.left, ap length e)
no_list w _ _ _ v (p ∷ ps) s e = s.apart e.0 p e.1

pub whole : (file : List ℕ) (fs : List Handed) (w v : Point) (r : Told) → Walks file fs w → Steps w r v → Whole file fs r
whole file fs w v none run s =
    let q = (sofar file fs w run).sound [] s.0 in
    (q.0, q.1, sym (q.2 ∙ append-nil fs), λ ps e. one_list file q.0 ps q.1 e)
whole file fs w v (handed f) run s = λ ps e.
    let p = (sofar file fs w run).complete ps e in
    let g = first w.rest v.rest f.parts p.0 s.behind p.1 in (
      numbered v.number g.0,
      p.2 ∙ ap (λ l. fs ++ numbered w.number l) g.2 ∙ next_numbered fs w v f g.0 s g.1 ∙ append_assoc fs (f ∷ []) _,
    )
whole file fs w v (refused _ _ _) run s = λ ps e. let p = (sofar file fs w run).complete ps e in no_list w _ _ _ v p.0 s p.1

-- from a point at which frames end to end are left, they are handed out, and none is left then
hands_all : (file : List ℕ) (fs : List Handed) (w : Point) (ps : List Parts)
    → Walks file fs w
    → EndToEnd w.rest ps
    → Walks file (fs ++ numbered w.number ps) (record { rest = []; number = w.number + length ps })
hands_all file fs w [] run e =
    let n : w.number ≡ w.number + 0 = omega arith in
    let same : ◌≡◌ {A = Point} (record { rest = w.rest; number = w.number }) (record { rest = []; number = w.number + 0 }) = cc in
    rw (append-nil, ← same) run
hands_all file fs w (p ∷ ps) run e =
    let f : Handed = record { parts = p; number = w.number; place = size ps; len = length (encoded p) } in
    let v : Point = record { rest = e.0; number = w.number + 1 } in
    let place : size ps ≡ length e.0 = sym (size_of e.0 ps e.2) in
    let step : Steps w (handed f) v = record { behind = e.1; number = refl; place = place; len = refl; moved = refl } in
    let n : w.number + 1 + length ps ≡ w.number + suc (length ps) = omega arith in
    let all = hands_all file (fs ++ (f ∷ [])) v ps (called run (handed f) step) e.2 in
    rw (append_assoc fs (f ∷ []) (numbered (w.number + 1) ps), n) at all

pub reaches : (file : List ℕ) → Reaches file
reaches file ps e =
    let n : 0 + length ps ≡ length ps = omega arith in
    rw n at (hands_all file [] (start file) ps begun e)
