-- A lawful frame is read back from the bytes that it ends: its last eight bytes tell its kind and lengths, which cut it
-- where it was joined. So bytes end in at most one lawful frame.
use Rattle.std.proofs.Common.{◌≡◌, ℕ, ◌+◌, ◌-◌, ◌*◌, ◌/◌, ◌%◌, ◌≤◌, eqb, ltb, List, ◌++◌, length, get_or, take, drop, Some, Ok, Err, refl, ap, ◌∙◌, append_assoc, arith}
use native.Mathlib.Nat.{mod-add-div'}
use Rattle.std.proofs.lemmas.List.{length-append, get_or-append_right, take_at, drop_at}
use Rattle.std.proofs.lemmas.Bool.{cond-false, cond-true, le-ltb, eq-eqb}
use Rattle.wire.specs.Kinds.{kind_of}
use Rattle.wire.specs.declared.fault.FrameFault.{FrameFault}
use Rattle.wire.proofs.Listed.{listed}
use Rattle.pass.specs.declared.trailer.Trailer.{Trailer}
use Rattle.pass.specs.Layout.{back, Parts, lengths, trailer_bytes, span, encoded, Lawful, Behind}
use Rattle.pass.specs.Reading.{fields_of, trailer_of, Cut, parts_at, cut_at, last_of}
use Rattle.pass.proofs.Cuts.{accepted}

-- a byte of the last of two lists
back_of : (xs ys : List ℕ) (k : ℕ) → k ≤ length ys → back (xs ++ ys) k ≡ get_or ys (length ys - k) 0
back_of xs ys k h =
    let n : length (xs ++ ys) - k ≡ length xs + (length ys - k) = simp length-append (omega arith) in
    let m : length xs + (length ys - k) - length xs ≡ length ys - k = omega arith in
    ap (λ i. get_or (xs ++ ys) i 0) n
    ∙ get_or-append_right xs ys (length xs) (length xs + (length ys - k)) 0 refl (omega arith)
    ∙ ap (λ i. get_or ys i 0) m

-- high and low byte make the length again
two_bytes : (n high low : ℕ) → high ≡ n / 256 → low ≡ n % 256 → high * 256 + low ≡ n
two_bytes n high low h l = omega (arith, mod-add-div' n 256)

-- the trailer that some bytes end in is read
trailer_back : (xs : List ℕ) (t : Trailer) → trailer_of (xs ++ trailer_bytes t) ≡ Ok t
trailer_back xs t =
    let bs = xs ++ trailer_bytes t in
    let at = back_of xs (trailer_bytes t) in
    let long : 8 ≤ length bs = simp length-append (omega arith) in
    let kind : kind_of (back bs 2) ≡ Some t.kind = ap kind_of (at 2 (omega arith)) ∙ listed t.kind in
    let b : back bs 4 * 256 + back bs 3 ≡ t.body = two_bytes t.body _ _ (at 4 (omega arith)) (at 3 (omega arith)) in
    let h : back bs 6 * 256 + back bs 5 ≡ t.header = two_bytes t.header _ _ (at 6 (omega arith)) (at 5 (omega arith)) in
    let g : back bs 7 ≡ t.tag = at 7 (omega arith) in
    let n : back bs 8 ≡ t.nonce = at 8 (omega arith) in
    let fields : fields_of bs (Some t.kind)
    ≡ Ok (record { kind = t.kind; nonce = t.nonce; tag = t.tag; header = t.header; body = t.body }) =
    cc in
    cond-false (ltb (length bs) 8) _ _ (le-ltb (length bs) 8 long)
    ∙ cond-true (eqb (back bs 1) 0xA7) _ _ (eq-eqb (back bs 1) 0xA7 (at 1 (omega arith)))
    ∙ ap (fields_of bs) kind
    ∙ fields

-- the parts, joined
abbrev joined : Parts → List ℕ
joined p = p.nonce ++ (p.header ++ (p.body ++ p.tag))

-- the cut undoes the join
cut_joined : (p : Parts) → parts_at (lengths p) (joined p) ≡ p
cut_joined p =
    let second = p.header ++ (p.body ++ p.tag) in
    let third = p.body ++ p.tag in
    let n = take_at p.nonce second _ refl in
    let n' = drop_at p.nonce second _ refl in
    let h = take_at p.header third _ refl in
    let h' = drop_at p.header third _ refl in
    let b = take_at p.body p.tag _ refl in
    let b' = drop_at p.body p.tag _ refl in
    let same : parts_at (lengths p) (joined p)
    ≡ record { kind = p.kind; nonce = p.nonce; header = p.header; body = p.body; tag = p.tag } =
    cc in
    same

abbrev cut : List ℕ → Parts → Cut
cut rest p = record { rest = rest; parts = p }

pub read_back : (rest : List ℕ) (p : Parts) → Lawful p → last_of (rest ++ encoded p) ≡ Ok (cut rest p)
read_back rest p ok =
    let t = lengths p in
    let bs = rest ++ encoded p in
    let end = trailer_bytes t in
    let whole : bs ≡ (rest ++ joined p) ++ end = simp append_assoc in
    let n : length (joined p) ≡ span t = simp length-append (omega arith) in
    let m : length (rest ++ joined p) ≡ length bs - 8 = omega (arith, ap length whole, length-append (rest ++ joined p) end) in
    let before : take (length bs - 8) bs ≡ rest ++ joined p =
    ap (take (length bs - 8)) whole ∙ take_at (rest ++ joined p) end (length bs - 8) m in
    let fits : span t ≤ length (take (length bs - 8) bs) =
    omega (arith, ap length before, length-append rest (joined p)) in
    let start : length rest ≡ length (rest ++ joined p) - span t = omega (arith, length-append rest (joined p)) in
    accepted bs t (ap trailer_of whole ∙ trailer_back (rest ++ joined p) t) ok.limits fits
    ∙ ap (λ xs. Ok (cut_at t xs)) before
    ∙ ap (λ r. Ok (cut r (parts_at t (drop (length (rest ++ joined p) - span t) (rest ++ joined p))))) (take_at rest (joined p) _ start)
    ∙ ap (λ ps. Ok (cut rest (parts_at t ps))) (drop_at rest (joined p) _ start)
    ∙ ap (λ q. Ok (cut rest q)) (cut_joined p)

-- one lawful frame at most ends some bytes
pub one_frame : (bs rest rest' : List ℕ) (p q : Parts) → Behind bs rest p → Behind bs rest' q → (rest ≡ rest') × (p ≡ q)
one_frame bs rest rest' p q h k =
    let left : last_of bs ≡ Ok (cut rest p) = ap last_of h.joined ∙ read_back rest p h.lawful in
    let right : last_of bs ≡ Ok (cut rest' q) = ap last_of k.joined ∙ read_back rest' q k.lawful in
    let same : cut rest p ≡ cut rest' q = cc in (ap (λ c. c.rest) same, ap (λ c. c.parts) same)

-- bytes that a check refuses end in none
pub no_frame : (bs rest : List ℕ) (p : Parts) (e : FrameFault) → last_of bs ≡ Err e → Behind bs rest p → ⊥
no_frame bs rest p e refused h =
    let read : last_of bs ≡ Ok (cut rest p) = ap last_of h.joined ∙ read_back rest p h.lawful in
    cc

-- a frame has at least a trailer's bytes
pub shorter : (bs rest : List ℕ) (p : Parts) → Behind bs rest p → length rest + 8 ≤ length bs
shorter bs rest p h = omega (arith, simp length-append at (ap length h.joined))
