mod Unopened
