-- A chain comes to CMAC: fed a string it holds CBC of all blocks but the last, and the last block; finishing pads that one.
use Rattle.std.proofs.Common.{◌≡◌, ℕ, zero, suc, ◌+◌, ◌-◌, ◌*◌, ◌/◌, ◌%◌, ◌<◌, ◌≤◌, true, false, ◌&&◌, eqb, ltb, List, [], ◌∷◌, ◌++◌, length, take, drop, replicate, sym, ap, ◌∙◌, ⊎_elim, mod-lt, suc-mul, zero-mul, mul-div_cancel, arith}
use Rattle.std.proofs.lemmas.List.{take-append-drop, length-take-le, length-drop, drop-drop, drop-take, drop-append-le, get_or-take, take-append-le, length-append, length-replicate}
use Rattle.std.proofs.lemmas.List.Sums.{fold-append}
use Rattle.std.proofs.lemmas.Grind.{common_steps}
use Rattle.std.proofs.lemmas.Bool.Decides.{nat_tests}
use Rattle.std.proofs.lemmas.Bool.{ltb-true, eqb-true, cases_Bool, and_parts}
use Rattle.std.proofs.lemmas.Nat.{div-add-mod'}
use Rattle.block.specs.Form.{Form}
use Rattle.block.specs.Lawful.{Lawful}
use Rattle.block.specs.Blocks.{zero_block, end_block, xored, with_byte_at, bytes_of, put_from, block_of}
use Rattle.block.proofs.Bytes.{length-bytes, by_bytes}
use Rattle.mode.specs.Strings.{into_last, is_full, filled_up, two_l, four_l, pad, cbc, cmac, omac}
use Rattle.mode.proofs.Ctr.{some}
use Rattle.stream.specs.declared.chain.Chain.{Chain}
use Rattle.stream.specs.Chaining.{blank, holding, pushed, fed, finished}
use Rattle.stream.specs.Laws.{Chains}
use Rattle.stream.proofs.Padding.{same_front, block-filled_up}

-- a count of whole blocks that is not 0 has a last block
whole_blocks : (q r n x : ℕ) → 0 < x → r ≡ 0 → q * n + r ≡ x → x ≡ (q - 1) * n + n
whole_blocks q r n x some even sum = grind (arith, nat_tests, suc-mul (q - 1) n)

-- otherwise the last block is short, or the string empty
short_last : (q r n x : ℕ) → 0 < n → (ltb 0 x && eqb r 0) ≡ false → q * n + r ≡ x → 0 < q → q * n < x
short_last q r n x wide f sum some = grind (arith, nat_tests)

module _ {B : Type 0} (form : Form B) (lawful : Lawful form) (F : B → B) where
  joined : (c : Chain B) (X Y : List ℕ) → fed form F (fed form F c X) Y ≡ fed form F c (X ++ Y)
  unfolding fed
  joined c X Y = sym (fold-append (pushed form F) c X Y)

  -- bytes that fit are put into the block that is held
  fitting : (X : List ℕ) (v h : B) (p : ℕ)
      → p + length X ≤ form.size
      → fed form F (record { sum = v; held = h; count = p }) X
      ≡ record { sum = v; held = put_from form h p X; count = p + length X }
  unfolding fed
  fitting [] v h p fits = grind arith
  fitting (x ∷ X) v h p fits = grind (arith, nat_tests, fitting X v (with_byte_at form h p x) (p + 1))

  -- before the next byte a full block goes into the sum
  passing : (X : List ℕ) (v h : B)
      → 0 < length X
      → fed form F (record { sum = v; held = h; count = form.size }) X
      ≡ fed form F (record { sum = F (xored form v h); held = zero_block form; count = 0 }) X
  unfolding fed
  passing [] v h l = absurd (omega arith)
  passing (x ∷ X) v h l = grind (arith, nat_tests, some form lawful F)

  -- what a chain holds after q blocks and a last one, which is empty only if the string is
  blocks : (q : ℕ) (v : B) (X : List ℕ)
      → (0 < q → q * form.size < length X)
      → length X ≤ q * form.size + form.size
      → fed form F (record { sum = v; held = zero_block form; count = 0 }) X
      ≡ record { sum = cbc form F q v X; held = block_of form (drop (q * form.size) X); count = length X - q * form.size }
  unfolding cbc
  blocks zero v X long fits = grind (arith, common_steps, zero-mul form.size, fitting X v (zero_block form) 0)
  blocks (suc q) v X long fits =
      let n = form.size in
      let start : Chain B = record { sum = v; held = zero_block form; count = 0 } in
      let times = suc-mul q n in
      let more : n < length X = omega (arith, times, long (omega arith)) in
      let first = length-take-le n X (omega arith) in
      let rest = length-drop n X in
      let front : block_of form (take n X) ≡ block_of form X =
      same_front form lawful (take n X) X (λ i l. get_or-take n X i 0 l) in
      let parts = take-append-drop n X in
      let both = joined start (take n X) (drop n X) in
      let one = fitting (take n X) v (zero_block form) 0 (omega arith) in
      let next = passing (drop n X) v (block_of form (take n X)) (omega arith) in
      let others =
      blocks q (F (xored form v (block_of form X))) (drop n X) (λ l. omega (arith, long (omega arith))) (omega arith) in
      let left = drop-drop (q * n) n X in
      grind arith

  -- CBC of all blocks but the last, and then the last
  cbc_last : (q : ℕ) (v b : B) (X : List ℕ)
      → q * form.size ≤ length X
      → cbc form F (suc q) v (take (q * form.size) X ++ bytes_of form b) ≡ F (xored form (cbc form F q v X) b)
  unfolding cbc
  cbc_last zero v b X h = grind (arith, common_steps, zero-mul form.size, (by_bytes form lawful).back b)
  cbc_last (suc q) v b X h =
      let n = form.size in
      let times : suc q * n ≡ n + q * n = suc-mul q n ∙ omega arith in
      let Y = take (suc q * n) X ++ bytes_of form b in
      let long = length-take-le (suc q * n) X h in
      let front : block_of form Y ≡ block_of form X =
      same_front form lawful Y X (λ i l. grind (arith, common_steps)) in
      let back : drop n Y ≡ take (q * n) (drop n X) ++ bytes_of form b =
      drop-append-le n (take (suc q * n) X) (bytes_of form b) (omega arith)
      ∙ ap (λ Z. Z ++ bytes_of form b) (ap (λ k. drop n (take k X)) times ∙ drop-take n (q * n) X) in
      cc (cbc_last q (F (xored form v (block_of form X))) b (drop n X) (omega (arith, length-drop n X)))

  -- CMAC where the padded string is q blocks and a last one
  cmac_last : (q : ℕ) (b : B) (X : List ℕ)
      → q * form.size ≤ length X
      → pad form F X ≡ take (q * form.size) X ++ bytes_of form b
      → cmac form F X ≡ F (xored form (cbc form F q (zero_block form) X) b)
  unfolding cmac
  cmac_last q b X h padded =
      let n = form.size in
      let long : length (pad form F X) / n ≡ suc q =
      ap (λ k. k / n) (grind (arith, common_steps, length-bytes form lawful b, suc-mul q n)) ∙ mul-div_cancel (suc q) (some form lawful F) in
      rw (long, padded) (cbc_last q (zero_block form) b X h)

  full : (X : List ℕ) → is_full form X ≡ true → finished form F (fed form F (blank form) X) ≡ cmac form F X
  unfolding finished pad is_full into_last
  full X f =
      let n = form.size in
      let q = length X / n - 1 in
      let parts = and_parts _ _ f in
      let times : length X ≡ q * n + n =
      whole_blocks _ _ n (length X) (ltb-true 0 (length X) parts.0) (eqb-true (length X % n) 0 parts.1) (div-add-mod' (length X) n) in
      let last : B = xored form (block_of form (drop (q * n) X)) (two_l form F) in
      let held = blocks q (zero_block form) X (λ l. omega (arith, some form lawful F)) (omega arith) in
      let sum = cmac_last q last X (omega arith) in
      grind (arith, nat_tests)

  short : (X : List ℕ) → is_full form X ≡ false → finished form F (fed form F (blank form) X) ≡ cmac form F X
  unfolding finished pad is_full into_last filled_up
  short X f =
      let n = form.size in
      let q = length X / n in
      let whole = div-add-mod' (length X) n in
      let rest = mod-lt (length X) (some form lawful F) in
      let zeros = n - 1 - length X % n in
      let Y = filled_up form X in
      let X' = drop (q * n) X in
      let long : length Y ≡ q * n + n =
      length-append X _ ∙ omega (arith, length-replicate {A = ℕ} zeros 0) in
      let left : block_of form (drop (q * n) Y) ≡ with_byte_at form (block_of form X') (length X - q * n) 0x80 =
      ap (block_of form) (drop-append-le (q * n) X _ (omega arith))
      ∙ block-filled_up form lawful X' 0x80 zeros
      ∙ ap (λ k. with_byte_at form (block_of form X') k 0x80) (length-drop (q * n) X) in
      let front = take-append-le (q * n) X (0x80 ∷ replicate zeros 0) (omega arith) in
      let last : B = xored form (with_byte_at form (block_of form X') (length X - q * n) 0x80) (four_l form F) in
      let held = blocks q (zero_block form) X (short_last q _ n (length X) (some form lawful F) f whole) (omega arith) in
      let sum = cmac_last q last X (omega arith) in
      grind (arith, nat_tests)

  plain : (X : List ℕ) → finished form F (fed form F (blank form) X) ≡ cmac form F X
  plain X = ⊎_elim (full X) (short X) (cases_Bool (is_full form X))

  block : (b : B) → fed form F (blank form) (bytes_of form b) ≡ holding form b
  block b =
      grind
      (arith, common_steps, fitting (bytes_of form b) (zero_block form) (zero_block form) 0, length-bytes form lawful b, (by_bytes form lawful).back b)

  tweaked : (t : ℕ) (X : List ℕ) → finished form F (fed form F (holding form (end_block form t)) X) ≡ omac form F t X
  unfolding omac
  tweaked t X =
      let same = block (end_block form t) in
      let two = joined (blank form) (bytes_of form (end_block form t)) X in
      let whole = plain (bytes_of form (end_block form t) ++ X) in
      cc

  pub chains : Chains form F
  chains = record { joined = joined; block = block; plain = plain; tweaked = tweaked }
