use Rattle.std.proofs.Common.{◌≡◌, ℕ, ◌+◌, ◌*◌, ◌-◌, ◌≤◌, ◌++◌, replicate, ap, subst, ◌∙◌, append_assoc, arith}
use Rattle.std.proofs.lemmas.List.{length-append, length-replicate, replicate-append-replicate}
use Rattle.pv_model.specs.Machine.{Bytes}
use Rattle.pv_streams.proofs.OutputTexts.{on_err}
use Rattle.pv_streams.specs.Sinks.{WritesPrefix}
use Rattle.pv_image_write.specs.Written.{IsPartlyWritten}
use Rattle.pv_streams.proofs.OutputTexts.{begins_first}
use Rattle.pv_image_write.proofs.WindowWrites.{put-cut, put-more, put-on, put-within}
use Rattle.pv_image_write.proofs.window.write_zeros.Goals as goal

-- zeros of one more block
one-more : (n : ℕ) (xs : Bytes) → (xs ++ replicate (512 * n) 0) ++ replicate 512 0 ≡ xs ++ replicate (512 * (n + 1)) 0
one-more n xs =
    let all : 512 * n + 512 ≡ 512 * (n + 1) = omega arith in
    append_assoc xs (replicate (512 * n) 0) (replicate 512 0) ∙ ap (λ (ys : Bytes). xs ++ ys) (replicate-append-replicate (512 * n) 512 0 ∙ ap (λ k. replicate k 0) all)

-- all of them start with those so far
all-begin : (n m : ℕ) (xs : Bytes) → n ≤ m → (xs ++ replicate (512 * n) 0) ++ replicate (512 * (m - n)) 0 ≡ xs ++ replicate (512 * m) 0
all-begin n m xs within =
    let all : 512 * n + 512 * (m - n) ≡ 512 * m = omega arith in
    append_assoc xs (replicate (512 * n) 0) (replicate (512 * (m - n)) 0) ∙ ap (λ (ys : Bytes). xs ++ ys) (replicate-append-replicate (512 * n) (512 * (m - n)) 0 ∙ ap (λ k. replicate k 0) all)

pub put_zeros-requires : goal.put_zeros-requires
put_zeros-requires g c =
    let had = c.args.window.now.items in
    let zeros = replicate (512 * c.loop-block._block) 0 in
    let within = put-within (g.O.Sink.written c.args.image.now) (g.O.Sink.written c.loop-block.image) c.loop-block.window.items (had ++ zeros) c.loop-block.invariant.put in
    let long = length-append had zeros in
    let count = length-replicate {A = ℕ} (512 * c.loop-block._block) 0 in
    omega (arith, within, long, count, c.loop-block.window.ok.0, c.args.window.now.ok.0, c.loop-block.invariant.room, c.requires, c.loop-block-test.true)

pub returns-in_err-write_full-clause-cut : goal.returns-in_err-write_full-clause-cut
returns-in_err-write_full-clause-cut g c =
    let had = c.args.window.now.items in
    let n = c.loop-block._block in
    let m = c.args.blocks in
    let entry = g.O.Sink.written c.args.image.now in
    let mid = g.O.Sink.written c.loop-block.image in
    let after = g.O.Sink.written c.write_full.new.image in
    let more = put-more entry mid c.loop-block.window.items (had ++ replicate (512 * n) 0) c.put_zeros.new.bytes.items (replicate 512 0) c.loop-block.invariant.put c.put_zeros.ensures.items in
    let begun = put-cut entry mid after c.put_zeros.new.bytes.items ((had ++ replicate (512 * n) 0) ++ replicate 512 0) more c.in_err-write_full.ensures.cut in
    let here = subst (λ (xs : Bytes). WritesPrefix xs entry after) (one-more n had) begun in
    let further = begins_first (had ++ replicate (512 * (n + 1)) 0) (replicate (512 * (m - (n + 1))) 0) entry after here in
    on_err c.from_residual.result (subst (λ (xs : Bytes). WritesPrefix xs entry after) (all-begin (n + 1) m had (omega arith)) further)

pub loop-block-preserved : goal.loop-block-preserved
loop-block-preserved g c =
    let had = c.args.window.now.items in
    let n = c.loop-block._block in
    let entry = g.O.Sink.written c.args.image.now in
    let mid = g.O.Sink.written c.loop-block.image in
    let after = g.O.Sink.written c.write_full.new.image in
    let more = put-more entry mid c.loop-block.window.items (had ++ replicate (512 * n) 0) c.put_zeros.new.bytes.items (replicate 512 0) c.loop-block.invariant.put c.put_zeros.ensures.items in
    let on = put-on entry mid after c.put_zeros.new.bytes.items ((had ++ replicate (512 * n) 0) ++ replicate 512 0) c.write_full.new.window.items more c.in_ok-write_full.ensures.put in
    record {
      put = subst (λ (xs : Bytes). IsPartlyWritten entry after c.write_full.new.window.items xs) (one-more n had) on;
      room = omega (arith, c.loop-block.invariant.room, c.put_zeros.ensures.capacity, c.write_full.ensures.capacity);
      quiet = c.in_ok-write_full.ensures.quiet ∙ c.loop-block.invariant.quiet;
    }
