-- How long packets and the parts of blocks are.
use Rattle.std.proofs.Common.{◌≡◌, ◌≤◌, ℕ, ◌+◌, ◌-◌, ◌%◌, ◌^◌, List, [], ◌++◌, length, Option, Some, None, nat_lt, replicate, refl, arith, length-append}
use Rattle.std.proofs.lemmas.Bool.{cond_both, ltb-true}
use Rattle.std.proofs.lemmas.List.{length-replicate}
use Rattle.byteorder.specs.Endian.{big_bytes}
use Rattle.ripng_capture.specs.Blocks.{comment_options, no_more_options, option, packet_body, padded}
use Rattle.ripng_capture.specs.Checksum.{checksum_of}
use Rattle.ripng_capture.specs.Packets.{PacketValue, ipv6_header, packet_bytes, summed_bytes, udp_bytes}

-- a packet has 40 bytes of IPv6, 8 of UDP, and its payload
pub length_packet : (p : PacketValue) → length (packet_bytes p) ≡ 48 + length p.payload
unfolding packet_bytes
length_packet p = omega (arith, length-append (ipv6_header p) (udp_bytes p (checksum_of (summed_bytes p))))

-- a value is padded by 3 bytes at most
pub length_padded : (bytes : List ℕ) → length (padded bytes) ≤ length bytes + 3
length_padded bytes =
    let k = (4 - length bytes % 4) % 4 in
    let zero : ℕ = 0 in
    omega (arith, length-append bytes (replicate k zero), length-replicate k zero)

-- an option has 4 bytes before its value
length_option : (code : ℕ) (value : List ℕ) → length (option code value) ≤ length value + 7
length_option code value = omega (arith, length-append (big_bytes 2 code ++ big_bytes 2 (length value)) (padded value), length_padded value)

-- a comment is no longer than an option may be
pub length_comment : (comment : Option (List ℕ)) → length (comment_options comment) ≤ 65546
length_comment None = omega arith
length_comment (Some comment) =
    let value = option 1 comment ++ no_more_options in
    cond_both (nat_lt (length comment) (2 ^ 16)) value [] (λ (x : List ℕ). length x ≤ 65546)
    (λ fits. omega (arith, ltb-true (length comment) (2 ^ 16) fits, length-append (option 1 comment) no_more_options, length_option 1 comment))
    (λ large. omega arith)

-- what is summed has 40 bytes of the pseudo-header, 8 of UDP, and the payload
pub length_summed : (p : PacketValue) → length (summed_bytes p) ≡ 48 + length p.payload
unfolding summed_bytes
length_summed p = omega arith

-- the body of the block of a packet
pub length_body : (interface now : ℕ) (bytes : List ℕ) (comment : Option (List ℕ)) → length (packet_body interface now bytes comment) ≤ length bytes + 65569
unfolding packet_body
length_body interface now bytes comment =
    let front = big_bytes 4 interface ++ big_bytes 8 now ++ big_bytes 4 (length bytes) ++ big_bytes 4 (length bytes) in
    let twenty : length front ≡ 20 = refl in
    omega (arith, twenty, length-append (front ++ padded bytes) (comment_options comment), length-append front (padded bytes), length_padded bytes, length_comment comment)
